pub mod Ways
pub mod Turned
pub mod Turn
pub mod Promises
