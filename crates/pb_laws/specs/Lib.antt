pub mod History
pub mod Laws
pub mod Kept
pub mod Rows
pub mod JobsOut
pub mod JobsOutRows
pub mod States
pub mod Fixed
