use Rattle.std.proofs.Common.{◌≡◌, length, take}
use Rattle.pb_patterns.proofs.sets.set_of_bits.Given as goal

abbrev pub invariant-loop-at : goal.invariant-loop-at
invariant-loop-at l = (length l.set ≡ length l.bits) × (take l.at l.set ≡ take l.at l.bits)
