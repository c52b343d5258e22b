pub mod Layers
pub mod Equality
pub mod Sound
pub mod Meant
pub mod Broken
pub mod Exact
pub mod Carried
