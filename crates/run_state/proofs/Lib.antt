pub mod Stretch
pub mod Moved
pub mod Passing
