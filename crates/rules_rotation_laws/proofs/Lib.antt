pub mod Alike
pub mod Frames
pub mod Calls
