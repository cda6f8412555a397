use Rattle.std.proofs.Common.{◌≤◌, ◌+◌, List, length, vec_capacity}
use Rattle.pb_driver.specs.declared.workers.Worker.{Worker}
use Rattle.pb_driver.specs.Workers.{IsStarted}
use Rattle.pb_driver.proofs.workers.join_all.Given as goal

abbrev pub invariant-loop-handle : goal.invariant-loop-handle
invariant-loop-handle g l = record {
  room : length l.workers.items + length l.handles.items ≤ vec_capacity l.workers;
  back : (all : List (Worker _)) → IsStarted g.N.Runner.ran all l.initial.workers.items l.initial.handles.items → IsStarted g.N.Runner.ran all l.workers.items l.handles.items;
}

abbrev pub decreases-loop-handle : goal.decreases-loop-handle
decreases-loop-handle g l = goal.left-loop-handle g l
