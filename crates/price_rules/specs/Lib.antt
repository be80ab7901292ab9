pub mod PriceRules
pub mod Promises
