-- Words of pb_task_vars, passed on so that a crate above needs not name it.
unfoldable pub use Rattle.pb_task_vars.specs.Results.{items_at, on_tasks}
pub use Rattle.pb_task_vars.specs.declared.gifts.DelegatedFacts.{DelegatedFacts}
