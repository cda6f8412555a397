use Rattle.pb_strategies.proofs.Numbering.{IsPutTo}
use Rattle.pb_strategies.proofs.numbers.put_bits.Given as goal

abbrev pub invariant-loop-at : goal.invariant-loop-at
invariant-loop-at l = IsPutTo l.fn.bits.items l.bits.items l.host.0 l.number l.at l.left
