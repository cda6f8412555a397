pub mod Mentions
pub mod Hostvars
pub mod Rows
