pub mod Nodes
pub mod Candidates
pub mod Substitution
pub mod Same
pub mod Equality
