use Rattle.std.proofs.Common.{◌≡◌, ◌<◌, ℕ, [], false, length, slice_index_or}
use Rattle.std.specs.Prelude.{replicate}
use Rattle.pb_strategies.proofs.numbers.empty_bits.Given as goal

abbrev pub invariant-loop-left : goal.invariant-loop-left
invariant-loop-left l = (k : ℕ) → k < length l.bits.items → slice_index_or l.bits.items k [] ≡ replicate l.hosts false

abbrev pub decreases-loop-left : goal.decreases-loop-left
decreases-loop-left l = l.left
