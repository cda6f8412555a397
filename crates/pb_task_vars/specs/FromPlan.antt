-- Words of pb_plan, passed on so that a crate above needs not name it.
pub use Rattle.pb_plan.specs.Plan.{PlanOf, PlayOf, bare_plan, bare_play, bare_tree, run_once_of}
