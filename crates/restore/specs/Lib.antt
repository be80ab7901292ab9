pub mod Restore
pub mod Promises
