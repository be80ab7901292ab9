pub mod Longest
