pub mod Members
pub mod Watching
pub mod Numbering
pub mod Keeping
pub mod Starting
pub mod Closing
pub mod Turning
