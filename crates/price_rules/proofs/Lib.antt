pub mod Cost
pub mod Priced
pub mod Calls
pub mod Promises
