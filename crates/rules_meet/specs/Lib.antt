pub mod Meeting
pub mod Flags
pub mod Promises
