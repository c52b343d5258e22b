mod Deciding
mod InTurn
mod Standing
mod Trees
mod Laws
mod Moving
mod Slots
mod Law
pub mod Shifts
pub mod Stands
pub mod Copied
pub mod Swapped
pub mod Levels
pub mod Bare
pub mod Carried
pub mod Firsts
pub mod Quiet
pub mod Operands
pub mod Names
pub mod Own
pub mod Variables
pub mod ShownTrees
