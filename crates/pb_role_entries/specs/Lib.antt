pub mod Keys
pub mod RoleEntries
pub mod Rows
