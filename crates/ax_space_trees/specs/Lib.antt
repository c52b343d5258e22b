pub mod Positions
pub mod Space
pub mod Trees
pub mod Region
pub mod Listed
pub mod Sizes
pub mod Within
