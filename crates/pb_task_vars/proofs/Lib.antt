pub mod FewItems
pub mod ForOthers
pub mod Layered
pub mod ReadHosts
mod FreeOfHostvars
pub mod FactsAfter
pub mod Unseeing
pub mod AttemptsUnread
