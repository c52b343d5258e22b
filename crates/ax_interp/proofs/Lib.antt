pub mod Ops
pub mod Calls
pub mod Ended
pub mod Kept
