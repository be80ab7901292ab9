pub mod Spoilt
pub mod Made
pub mod Meaning
