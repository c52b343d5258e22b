mod Closing
pub mod CallLayers
mod LargeLayers
mod Counted
mod Passed
mod Quiet
mod Found
