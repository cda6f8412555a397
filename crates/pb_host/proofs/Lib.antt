pub mod InOrder
pub mod Begun
pub mod Ending
pub mod Numbering
pub mod Went
pub mod Placed
pub mod FromTaskVars
