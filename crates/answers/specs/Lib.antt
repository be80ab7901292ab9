pub mod Refusals
pub mod Promises
pub mod Answers
pub mod Buffers
pub mod Bytes
pub mod Reasons
