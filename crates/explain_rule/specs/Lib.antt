pub mod ExplainRule
pub mod Promises
