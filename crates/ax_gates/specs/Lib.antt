pub mod Gates
pub mod Words
pub mod Bitwise
