pub mod Tested
pub mod Listed
pub mod Taken
