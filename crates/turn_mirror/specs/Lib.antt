pub mod Mirrored
pub mod Promises
