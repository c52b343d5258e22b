pub mod Zips
pub mod Others
pub mod Shown
pub mod Orders
