pub mod Progress
pub mod Ready
