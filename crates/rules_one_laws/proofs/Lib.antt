pub mod One
pub mod Calls
