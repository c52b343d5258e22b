pub mod Structs
pub mod Answers
