pub mod Pool
pub mod Scan
pub mod Wrapped
