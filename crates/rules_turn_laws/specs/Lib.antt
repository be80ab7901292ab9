pub mod Promises
pub mod Calls
pub mod Edits
