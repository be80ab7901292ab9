pub mod Status
pub mod Promises
