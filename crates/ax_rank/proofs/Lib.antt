mod Fractions
mod Lists
mod Orders
