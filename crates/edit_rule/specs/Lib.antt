pub mod Edit
pub mod Promises
