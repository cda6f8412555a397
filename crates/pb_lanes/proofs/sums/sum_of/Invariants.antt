use Rattle.std.proofs.Common.{◌≡◌, ◌+◌, ◌*◌, drop, length}
use Rattle.std.specs.List.{sum}
use Rattle.std.specs.Simd.Lanes.{sum_l}
use Rattle.pb_lanes.proofs.sums.sum_of.Given as goal

abbrev pub invariant-loop-index : goal.invariant-loop-index
invariant-loop-index l = (length l.sums ≡ 8) × (sum_l l.sums + sum (drop (8 * l.index) l.counts) ≡ sum l.counts)
