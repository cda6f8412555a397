pub mod Pieces
pub mod Parts
pub mod Computed
pub mod Plain
pub mod Rows
