pub mod Taken
pub mod Calls
