pub mod Cuts
pub mod ReadsBack
mod Steps
pub mod Strips
