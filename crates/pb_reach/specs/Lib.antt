pub mod Named
pub mod Apart
pub mod ResultConditions
pub mod Reached
pub mod Reach
pub mod Rows
pub mod FromItems
