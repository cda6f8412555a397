pub mod Values
pub mod Operators
pub mod Rows
