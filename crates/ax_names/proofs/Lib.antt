pub mod Steps
pub mod Layers
pub mod Kept
pub mod Objects
pub mod BecomingSteps
