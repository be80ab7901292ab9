pub mod Rules
pub mod Buffers
