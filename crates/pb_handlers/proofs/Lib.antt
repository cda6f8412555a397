pub mod Bits
pub mod Histories
pub mod Collected
pub mod Lookups
pub mod Counted
pub mod Walked
