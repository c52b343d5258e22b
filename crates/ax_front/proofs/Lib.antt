pub mod Outside
pub mod Bodies
pub mod Refusals
