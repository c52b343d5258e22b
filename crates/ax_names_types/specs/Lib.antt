pub mod Faults
pub mod Scopes
pub mod Types
pub mod Meaning
pub mod Breaks
pub mod Verdicts
pub mod Atoms
