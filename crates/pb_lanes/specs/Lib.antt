pub mod Bytes
pub mod Codes
pub mod ColumnsOf
pub mod Rows
