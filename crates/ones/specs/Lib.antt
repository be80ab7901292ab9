pub mod Ones
pub mod Words
pub mod Promises
