pub mod Atoms
pub mod Layers
pub mod Splicing
pub mod Written
pub mod Same
