pub mod Fields
pub mod Parts
pub mod Said
pub mod Single
