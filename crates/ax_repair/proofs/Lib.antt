mod Parts
mod Lying
mod Stays
mod Tried
mod Costs
