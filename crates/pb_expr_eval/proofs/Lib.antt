pub mod Weights
pub mod Members
pub mod Read
pub mod Steps
pub mod Unrendered
pub mod Whole
