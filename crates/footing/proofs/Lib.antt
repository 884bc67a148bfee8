pub mod SmallRows
pub mod LookLaws
pub mod KeepLaws
pub mod AcrossLaws
pub mod TurnLaws
pub mod ConvertLaws
pub mod OnTurn
