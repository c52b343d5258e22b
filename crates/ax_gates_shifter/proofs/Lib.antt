pub mod Words
pub mod Rights
pub mod Lefts
pub mod Laws
