pub mod Frames
pub mod Promises
