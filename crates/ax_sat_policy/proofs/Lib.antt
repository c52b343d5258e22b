pub mod Cores
pub mod Choosing
