pub mod DeclarationTurns
pub mod ListTurns
mod HeadExits
pub mod SimpleExits
pub mod Passes
pub mod ForExits
pub mod StatementExits
pub mod StatementTurns
