pub mod Place
pub mod Hostvars
pub mod Within
pub mod Held
pub mod Caught
pub mod Rows
pub mod FromPlay
