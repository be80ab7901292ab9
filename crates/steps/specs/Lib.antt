pub mod Text
pub mod Steps
pub mod Occurrences
pub mod Bound
pub mod Promises
