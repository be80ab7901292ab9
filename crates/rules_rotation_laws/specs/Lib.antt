pub mod Promises
pub mod Calls
