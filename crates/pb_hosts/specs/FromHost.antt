-- Words of pb_host, passed on so that a crate above needs not name it.
pub use Rattle.pb_host.specs.Host.{task_at}
