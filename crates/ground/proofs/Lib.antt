pub mod Bools
pub mod Choice
pub mod Tests
pub mod Padded
pub mod Limits
