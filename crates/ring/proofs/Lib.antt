pub mod Back
pub mod Ascending
pub mod Listed
pub mod Occurrences
