pub mod Blocks
pub mod Blasting
pub mod Table
pub mod Blasted
pub mod Reading
