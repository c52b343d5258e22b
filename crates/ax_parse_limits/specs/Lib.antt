pub mod Nesting
pub mod Calls
pub mod Nodes
pub mod Wholes
pub mod Scan
