pub mod Sizes
pub mod Rows
