pub mod TurnLaws
pub mod DivisionLaws
pub mod Steps
pub mod Laws
