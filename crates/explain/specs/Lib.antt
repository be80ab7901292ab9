pub mod Explain
pub mod Promises
