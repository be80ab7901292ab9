pub mod Conversions
pub mod Promises
