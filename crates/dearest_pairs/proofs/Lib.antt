pub mod Numbers
pub mod Pairs
pub mod Dearest
