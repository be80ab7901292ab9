pub mod Restored
pub mod Matched
pub mod One
pub mod Table
