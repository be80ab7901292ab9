mod Numbers
pub mod Promises
pub mod Paired
