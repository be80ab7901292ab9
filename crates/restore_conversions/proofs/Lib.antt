pub mod Numbered
pub mod Restored
pub mod Walked
pub mod One
