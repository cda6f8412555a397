use Rattle.std.proofs.Common.{◌≡◌, ◌≤◌, ◌+◌, ◌++◌, length, map, reverse, vec_capacity}
use Rattle.pb_driver.specs.Workers.{runner_of, seat_of}
use Rattle.pb_driver.proofs.workers.part_all.Given as goal

abbrev pub invariant-loop-worker : goal.invariant-loop-worker
invariant-loop-worker g l = record {
  room : (length l.seats.items + length l.workers.items ≤ vec_capacity l.seats) × (length l.runners.items + length l.workers.items ≤ vec_capacity l.runners);
  seats : l.seats.items ++ reverse (map seat_of l.workers.items) ≡ reverse (map seat_of l.initial.workers.items);
  runners : l.runners.items ++ reverse (map runner_of l.workers.items) ≡ reverse (map runner_of l.initial.workers.items);
}

abbrev pub decreases-loop-worker : goal.decreases-loop-worker
decreases-loop-worker g l = goal.left-loop-worker g l
