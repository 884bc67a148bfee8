pub mod RoomLaws
pub mod SettleLaws
pub mod InsertLaws
