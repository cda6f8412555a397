use Rattle.std.proofs.Common.{◌≡◌, ◌+◌, drop}
use Rattle.std.specs.List.{sum}
use Rattle.pb_lanes.proofs.sums.sum_rest.Given as goal

abbrev pub invariant-loop-at : goal.invariant-loop-at
invariant-loop-at l = l.sum + sum (drop l.at l.counts) ≡ sum (drop l.from l.counts)
