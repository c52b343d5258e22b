pub mod Words
pub mod Clauses
pub mod Written
