pub mod Marked
pub mod Holds
pub mod One
pub mod Written
