use Rattle.pb_strategies.proofs.Numbering.{IsKeptTo}
use Rattle.pb_strategies.proofs.numbers.keep_bits.Given as goal

abbrev pub invariant-loop-bit : goal.invariant-loop-bit
invariant-loop-bit l = IsKeptTo l.fn.set l.set l.bits l.number l.bit-index l.left
