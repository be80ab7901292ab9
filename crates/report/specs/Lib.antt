pub mod Report
pub mod Promises
pub mod Paired
