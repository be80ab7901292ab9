pub mod Hex
pub mod Pairs
pub mod Parsed
