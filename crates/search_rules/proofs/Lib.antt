pub mod Taken
pub mod Promises
