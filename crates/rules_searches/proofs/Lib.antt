pub mod Rooms
pub mod Parts
pub mod Rows
pub mod UnderWay
