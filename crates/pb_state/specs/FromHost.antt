-- Words of pb_host, passed on so that a crate above needs not name it.
unfoldable pub use Rattle.pb_host.specs.FactRows.{on_facts}
pub use Rattle.pb_host.specs.Host.{HostOf, as_play_begins}
