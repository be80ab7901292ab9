pub mod Priced
pub mod Calls
