pub mod Limits
pub mod Tests
