pub mod Roles
pub mod Table
pub mod Promises
