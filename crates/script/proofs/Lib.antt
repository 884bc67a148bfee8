pub mod Script
pub mod Heard
pub mod Reading
pub mod Promises
