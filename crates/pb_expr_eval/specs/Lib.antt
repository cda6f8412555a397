pub mod Value
pub mod Operand
pub mod Rendering
pub mod Scoped
pub mod Messages
pub mod Rows
pub mod FromTemplate
