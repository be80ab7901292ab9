pub mod Converted
pub mod Paired
pub mod Promises
