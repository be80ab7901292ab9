pub mod RuleFrames
pub mod Promises
pub mod Within
