pub mod Rotated
pub mod Occurrences
pub mod Frames
pub mod Calls
