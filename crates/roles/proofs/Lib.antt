pub mod Behind
mod Table
