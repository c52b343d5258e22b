pub mod Choices
pub mod Changes
