pub mod Signed
pub mod Stores
pub mod Entries
pub mod Copied
