pub mod Facts
pub mod Book
pub mod Rows
pub mod Stood
pub mod Update
