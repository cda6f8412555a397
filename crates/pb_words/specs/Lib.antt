pub mod Calls
pub mod Cutting
pub mod Rows
pub mod Words
