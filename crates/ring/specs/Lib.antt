pub mod Ring
pub mod Promises
