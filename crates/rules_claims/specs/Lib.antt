pub mod Claims
pub mod Promises
