pub mod Explanation
pub mod Promises
