pub mod Text
pub mod Meaning
pub mod Forms
pub mod Positions
pub mod Decimal
pub mod Names
pub mod Ends
