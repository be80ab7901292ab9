pub mod Reversed
pub mod Occurrences
pub mod Frames
pub mod Calls
