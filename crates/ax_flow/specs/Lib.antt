pub mod Flat
pub mod Machine
pub mod Drafts
pub mod Laws
