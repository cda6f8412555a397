pub mod Chosen
pub mod Faults
pub mod Firsts
pub mod Meant
pub mod Orders
pub mod Read
pub mod Rows
pub mod SetLaws
pub mod Trimming
pub mod Wild
mod NoList
