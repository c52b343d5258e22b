pub mod Back
pub mod Numbers
pub mod Reading
pub mod Variables
