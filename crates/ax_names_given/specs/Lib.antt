pub mod Made
pub mod Scope
