pub mod Follow
pub mod Drawn
pub mod Layers
pub mod Filling
pub mod Loops
pub mod Functions
