pub mod Meeting
pub mod Runs
pub mod Apart
pub mod Laid
