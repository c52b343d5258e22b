mod Evaluations
mod Laws
