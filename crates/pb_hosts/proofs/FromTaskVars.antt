-- What pb_task_vars proves, passed on so that a crate above needs not name it.
pub use Rattle.pb_host.proofs.FromTaskVars.{attempts_of_place, items_of_place}
