pub mod Bundle
pub mod Ignored
pub mod IgnoredRows
