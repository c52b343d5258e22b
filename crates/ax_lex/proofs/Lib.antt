mod Numerals
mod Comments
mod Includes
mod Firsts
pub mod Lookups
pub mod Sequences
pub mod Ends
pub mod Cuts
pub mod Splice
pub mod Inside
pub mod Places
pub mod Printed
pub mod Texts
pub mod Turns
pub mod Unique
pub mod Exact
pub mod OneFault
pub mod Results
