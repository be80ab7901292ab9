pub mod Restored
pub mod Walk
pub mod Promises
