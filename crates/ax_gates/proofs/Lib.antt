pub mod GateLaws
pub mod Circuits
pub mod Laws
pub mod WordLaws
pub mod Values
