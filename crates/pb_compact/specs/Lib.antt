pub mod Tokens
pub mod Compact
pub mod Rows
