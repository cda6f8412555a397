use Rattle.std.proofs.Common.{◌≡◌, ◌≤◌, ◌+◌, ◌++◌, length, reverse, vec_capacity, vec_len}
use Rattle.pb_cli.proofs.workers.pour.Given as goal

abbrev pub invariant-loop-one : goal.invariant-loop-one
invariant-loop-one g l = record {
  room : length l.to.items + length l.from.items ≤ vec_capacity l.to;
  moved : l.to.items ++ reverse l.from.items ≡ l.initial.to.items ++ reverse l.initial.from.items;
  rooms : (vec_capacity l.from ≡ vec_capacity l.initial.from) × (vec_capacity l.to ≡ vec_capacity l.initial.to);
}

abbrev pub decreases-loop-one : goal.decreases-loop-one
decreases-loop-one g l = vec_len l.from
