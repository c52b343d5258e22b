pub mod Gives
pub mod Sources
pub mod Passing
pub mod Within
