pub mod Promises
pub mod Paired
