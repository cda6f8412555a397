pub mod Tests
pub mod Scopes
pub mod OwnItems
pub mod Independence
