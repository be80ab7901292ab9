pub mod Stored
pub mod Entries
pub mod Laying
pub mod Along
