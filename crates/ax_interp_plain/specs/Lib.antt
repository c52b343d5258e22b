pub mod Completions
pub mod Weights
