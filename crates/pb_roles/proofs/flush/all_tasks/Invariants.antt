use Rattle.std.proofs.Common.{◌≡◌, ◌++◌, map}
use Rattle.pb_roles.specs.Building.{task_of}
use Rattle.pb_roles.proofs.flush.all_tasks.Given as goal

abbrev pub invariant-loop-handler : goal.invariant-loop-handler
invariant-loop-handler l = l.tasks ++ map (task_of l.fn.keys) l.handler-iterator.rest.items ≡ map (task_of l.fn.keys) l.fn.handlers
