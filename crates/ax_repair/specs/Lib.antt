pub mod Search
pub mod Written
pub mod Outcomes
