pub mod Granted
pub mod Fitting
pub mod Standing
