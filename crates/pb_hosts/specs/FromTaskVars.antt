-- Words of pb_task_vars, passed on so that a crate above needs not name it.
pub use Rattle.pb_host.specs.FromTaskVars.{came_for, gifts_from, gifts_of, gives_of, has_run, items_for, layers_within, magic_of, nothing, place_for, seen_with, with_hosts}
unfoldable pub use Rattle.pb_host.specs.FromTaskVars.{came_at, given_by, items_at}
