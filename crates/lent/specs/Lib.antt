pub mod Layout
pub mod Words
pub mod Holds
