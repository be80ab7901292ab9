pub mod ConvertRules
pub mod Paired
pub mod Promises
