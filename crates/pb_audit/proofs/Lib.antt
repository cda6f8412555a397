pub mod Back
pub mod Counts
pub mod Cuts
pub mod Fronts
pub mod Going
pub mod Legal
pub mod NoNewline
pub mod Pools
