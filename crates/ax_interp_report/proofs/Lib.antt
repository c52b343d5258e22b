pub mod Zips
pub mod Lines
pub mod Judged
