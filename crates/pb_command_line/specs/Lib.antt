pub mod CommandLine
pub mod Rows
pub mod Table
