pub mod Logs
pub mod Views
pub mod Rule
pub mod Steps
pub mod Mailbox
pub mod Seats
pub mod Ends
pub mod Rows
