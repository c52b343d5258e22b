pub mod Changes
pub mod Deciding
pub mod Swaps
pub mod Shown
