-- What pb_task_vars proves, passed on so that a crate above needs not name it.
pub use Rattle.pb_task_vars.proofs.ForOthers.{AreForOthers, all_for_others}
pub use Rattle.pb_task_vars.proofs.ReadHosts.{attempts_of_place, items_of_place}
