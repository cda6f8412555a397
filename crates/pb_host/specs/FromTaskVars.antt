-- Words of pb_task_vars, passed on so that a crate above needs not name it.
pub use Rattle.pb_task_vars.specs.Ends.{has_run}
pub use Rattle.pb_task_vars.specs.Gifts.{gifts_from, gifts_of}
unfoldable pub use Rattle.pb_task_vars.specs.Gifts.{given_by}
pub use Rattle.pb_task_vars.specs.Learning.{gives_of}
unfoldable pub use Rattle.pb_task_vars.specs.Learning.{facts_after_end}
pub use Rattle.pb_task_vars.specs.Results.{came_for, items_for, layers_within, magic_of, nothing, place_for, variable_at}
unfoldable pub use Rattle.pb_task_vars.specs.Results.{came_at, items_at}
pub use Rattle.pb_task_vars.specs.WithHostvars.{seen_with, with_hosts}
pub use Rattle.pb_task_vars.specs.declared.gifts.DelegatedFacts.{DelegatedFacts}
