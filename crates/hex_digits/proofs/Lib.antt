pub mod Table
pub mod Digits
pub mod Parse
pub mod Pairs
pub mod Numbers
