use Rattle.std.proofs.Common.{◌≡◌, ◌≤◌, ◌+◌, ◌++◌, length, map, reverse, vec_capacity}
use Rattle.pb_cli.specs.Hired.{launcher_of}
use Rattle.pb_cli.proofs.workers.part.Given as goal

abbrev pub invariant-loop-runner : goal.invariant-loop-runner
invariant-loop-runner g l = record {
  room : length l.queue.items + length l.runners.items ≤ vec_capacity l.queue;
  moved : l.queue.items ++ reverse (map launcher_of l.runners.items) ≡ l.initial.queue.items ++ reverse (map launcher_of l.initial.runners.items);
}

abbrev pub decreases-loop-runner : goal.decreases-loop-runner
decreases-loop-runner g l = goal.left-loop-runner g l
