pub mod Job
pub mod Read
pub mod Write
pub mod Promises
