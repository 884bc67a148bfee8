pub mod Four
pub mod Refusals
pub mod TellLaws
pub mod Unique
