pub mod Taken
pub mod Converted
pub mod Paired
