pub mod Listed
pub mod Chains
pub mod Repeats
pub mod Shown
pub mod Within
