-- Words of pb_plan, passed on so that a crate above needs not name it.
pub use Rattle.pb_task_vars.specs.FromPlan.{PlanOf, PlayOf, bare_plan, bare_play, bare_tree}
