pub mod Words
pub mod Place
pub mod Sound
pub mod Splits
pub mod Short
pub mod Reading
pub mod Exact
pub mod Fits
