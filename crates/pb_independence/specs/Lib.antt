pub mod Independent
pub mod Apart
pub mod Rows
pub mod FromConditions
