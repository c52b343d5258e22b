pub mod Additions
pub mod Compares
pub mod Signs
pub mod Laws
