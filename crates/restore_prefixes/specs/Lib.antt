pub mod Prefixes
pub mod Promises
pub mod Links
