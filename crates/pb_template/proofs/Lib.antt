pub mod Cutting
pub mod Matching
pub mod Computing
pub mod Untouched
