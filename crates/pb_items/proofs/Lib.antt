pub mod Few
pub mod Listed
pub mod OneStart
pub mod Rendered
