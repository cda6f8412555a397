pub mod Hosts
pub mod Named
pub mod Formed
pub mod Counted
pub mod Finishing
pub mod Recounted
pub mod InColumns
