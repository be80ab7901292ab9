pub mod Taken
pub mod Edited
pub mod Bytes
pub mod Statuses
pub mod Promises
