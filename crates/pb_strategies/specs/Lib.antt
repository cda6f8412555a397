pub mod Hosts
pub mod Kept
pub mod MayStart
pub mod Numbers
pub mod Parts
pub mod Rows
