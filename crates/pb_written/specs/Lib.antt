pub mod Conditions
pub mod Faults
pub mod Rows
pub mod Simple
pub mod Tags
pub mod Templates
pub mod Texts
pub mod Values
