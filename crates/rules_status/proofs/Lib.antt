pub mod Measured
pub mod Lengths
