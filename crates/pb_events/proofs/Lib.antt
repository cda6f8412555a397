pub mod Plays
pub mod Names
pub mod NoLineFeed
pub mod Whole
mod Ended
