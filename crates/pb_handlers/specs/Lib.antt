pub mod Pending
pub mod History
pub mod Notes
pub mod Naming
pub mod Index
pub mod Laws
pub mod Rows
