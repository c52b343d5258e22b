pub mod Answer
pub mod Base
pub mod Marks
pub mod Levels
pub mod Search
pub mod Analysis
