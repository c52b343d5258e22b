pub mod Coverage
pub mod Orders
pub mod Texts
pub mod Handed
