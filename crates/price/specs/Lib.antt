pub mod Price
pub mod Promises
