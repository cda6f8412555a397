use Rattle.std.proofs.Common.{◌≡◌, ◌≤◌, ◌+◌, ◌++◌, length, map, reverse, vec_capacity, vec_len}
use Rattle.pb_driver.specs.Workers.{runner_of, seat_of}
use Rattle.pb_driver.proofs.workers.pair_all.Given as goal

abbrev pub invariant-loop-seat : goal.invariant-loop-seat
invariant-loop-seat g l = record {
  alike : length l.runners.items ≡ length l.seats.items;
  room : length l.workers.items + length l.seats.items ≤ vec_capacity l.workers;
  seats : map seat_of l.workers.items ++ reverse l.seats.items ≡ reverse l.initial.seats.items;
  runners : map runner_of l.workers.items ++ reverse l.runners.items ≡ reverse l.initial.runners.items;
  rooms : (vec_capacity l.seats ≡ vec_capacity l.initial.seats) × (vec_capacity l.runners ≡ vec_capacity l.initial.runners) × (vec_capacity l.workers ≡ vec_capacity l.initial.workers);
}

abbrev pub decreases-loop-seat : goal.decreases-loop-seat
decreases-loop-seat g l = vec_len l.seats
