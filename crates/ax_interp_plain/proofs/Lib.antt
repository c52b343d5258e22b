pub mod Weights
pub mod BlockEnds
pub mod Calls
