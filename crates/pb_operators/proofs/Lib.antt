pub mod Rows
pub mod Same
pub mod Texts
pub mod Numbers
