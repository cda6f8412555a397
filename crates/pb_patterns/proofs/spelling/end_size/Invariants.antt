use Rattle.std.proofs.Common.{◌≡◌, drop}
use Rattle.pb_patterns.specs.Spelling.{end_size}
use Rattle.pb_patterns.proofs.Trimming.{with_rest}
use Rattle.pb_patterns.proofs.spelling.end_size.Given as goal

abbrev pub invariant-loop-at : goal.invariant-loop-at
invariant-loop-at l = end_size l.bytes ≡ with_rest l.at l.size (end_size (drop l.at l.bytes))
