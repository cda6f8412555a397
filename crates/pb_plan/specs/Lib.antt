pub mod Plan
pub mod Hostvars
pub mod HostvarsRows
pub mod FromPlaces
