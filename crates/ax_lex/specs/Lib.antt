pub mod Bytes
pub mod Tokens
pub mod Pieces
pub mod Fronts
pub mod Faults
pub mod Splices
