pub mod Bytes
pub mod Fronts
pub mod Refusals
pub mod Answered
pub mod Partly
pub mod Reasons
