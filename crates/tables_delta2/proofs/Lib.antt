pub mod Links
pub mod Ordered
pub mod Linking
pub mod Values
