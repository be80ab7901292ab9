pub mod Minima
