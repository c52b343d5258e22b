pub mod Text
pub mod Spliced
