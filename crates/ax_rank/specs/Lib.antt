pub mod Runs
pub mod Scores
pub mod Formulas
pub mod Kinds
pub mod Tallies
pub mod Suspicion
