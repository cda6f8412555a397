pub mod Meta
pub mod RoleFiles
pub mod Rows
