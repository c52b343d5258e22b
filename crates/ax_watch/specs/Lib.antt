pub mod Lists
pub mod Marks
pub mod Store
pub mod Watch
pub mod Watched
