pub mod Walk
pub mod Flagged
pub mod Marks
pub mod Blocks
pub mod Flags
