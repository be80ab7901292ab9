pub mod Pairs
pub mod Dearest
pub mod Promises
