pub mod Scope
pub mod Found
pub mod Marked
pub mod Rows
pub mod Lent
pub mod Merged
pub mod Host
