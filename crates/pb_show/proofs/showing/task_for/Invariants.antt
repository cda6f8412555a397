use Rattle.std.proofs.Common.{◌≡◌, drop}
use Rattle.pb_show.specs.Showing.{task_for}
use Rattle.pb_show.proofs.showing.task_for.Given as goal

abbrev pub invariant-loop-task : goal.invariant-loop-task
invariant-loop-task l = task_for (drop l.task-index l.tasks) l.place ≡ task_for l.tasks l.place
