pub mod Tests
pub mod Suites
pub mod Laws
