pub mod Turned
pub mod Taken
pub mod Calls
