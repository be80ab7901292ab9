pub mod Frames
pub mod Table
pub mod Calls
pub mod Edits
