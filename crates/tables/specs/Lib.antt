pub mod Least
pub mod Sets
pub mod Tables
pub mod Buffers
pub mod Prepare
pub mod Facts
pub mod Promises
