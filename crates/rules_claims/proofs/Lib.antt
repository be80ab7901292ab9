pub mod Claimed
pub mod Twice
pub mod Few
