-- Words of pb_hosts, passed on so that a crate above needs not name it.
pub use Rattle.pb_hosts.specs.Batches.{has_batch_left, joined_first, play_host_count, room_behind}
pub use Rattle.pb_hosts.specs.Giving.{gifts_at, report_gives, takes, with_delegated}
pub use Rattle.pb_hosts.specs.Hosts.{at_row, change}
