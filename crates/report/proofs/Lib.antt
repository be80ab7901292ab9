pub mod Read
pub mod Converted
pub mod Printed
pub mod Cut
pub mod Fits
pub mod Paired
