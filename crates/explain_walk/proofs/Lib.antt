pub mod Reaching
pub mod Passing
pub mod Row
