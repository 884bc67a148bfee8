pub mod Script
pub mod Promises
