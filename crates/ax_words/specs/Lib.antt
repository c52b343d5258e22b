pub mod Commands
pub mod Lists
pub mod Numbers
pub mod Texts
pub mod Words
pub mod Laws
