pub mod Fronts
pub mod Grid
pub mod Parts
pub mod Settled
pub mod Table
pub mod Stored
pub mod Links
