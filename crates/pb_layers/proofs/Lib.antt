pub mod Hosts
pub mod Joined
pub mod LentMaps
pub mod Seen
pub mod Marks
