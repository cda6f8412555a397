-- What pb_hosts proves, passed on so that a crate above needs not name it.
pub use Rattle.pb_hosts.proofs.Batching.{length-joined}
pub use Rattle.pb_hosts.proofs.FirstRows.{length-first}
pub use Rattle.pb_hosts.proofs.Giving.{length-given}
pub use Rattle.pb_hosts.proofs.Turning.{Goes, goes_counts, turned_by_case, turned_hosts}
