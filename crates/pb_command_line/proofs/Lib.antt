mod Adding
pub mod Parsed
