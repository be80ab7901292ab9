pub mod Ready
pub mod Laid
