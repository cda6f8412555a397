pub mod Members
pub mod Commands
pub mod Noted
pub mod Picked
pub mod Runs
pub mod Waits
pub mod Laws
