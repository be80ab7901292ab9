pub mod Convert
pub mod Within
pub mod Paired
