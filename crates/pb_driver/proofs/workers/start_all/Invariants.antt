use Rattle.std.proofs.Common.{◌≡◌, ◌≤◌, ◌+◌, ◌++◌, length, map, reverse, vec_capacity, vec_len}
use Rattle.pb_driver.specs.Workers.{AreWorkersOf, began}
use Rattle.pb_driver.proofs.workers.start_all.Given as goal

abbrev pub invariant-loop-worker : goal.invariant-loop-worker
invariant-loop-worker g l = record {
  same : l.main ≡ l.initial.main;
  workers : AreWorkersOf l.hall.pool.now l.workers.items;
  split : l.initial.workers.items ≡ l.workers.items ++ reverse (map began l.handles.items);
  left : vec_capacity l.workers ≡ vec_capacity l.initial.workers;
  room : (length l.workers.items + length l.handles.items ≤ length l.initial.workers.items) × (length l.initial.workers.items ≤ vec_capacity l.handles);
}

abbrev pub decreases-loop-worker : goal.decreases-loop-worker
decreases-loop-worker g l = vec_len l.workers
