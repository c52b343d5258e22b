pub mod Trees
pub mod Statements
pub mod Fuel
pub mod Programs
pub mod WorkedRuns
mod AlikeTrees
mod RunsAlike
