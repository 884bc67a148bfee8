pub mod Told
pub mod Statements
pub mod Version
