pub mod SearchRules
pub mod Promises
