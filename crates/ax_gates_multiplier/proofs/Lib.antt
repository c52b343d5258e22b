pub mod RowLaws
pub mod Steps
pub mod Laws
