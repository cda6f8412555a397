use Rattle.std.proofs.Common.{◌≡◌, ◌++◌, length}
use denote.Text.{Utf8}
use denote.Shadow.{shadow}
use Rattle.pb_patterns.specs.Spelling.{spelt}
use Rattle.pb_patterns.proofs.spelling.push_spelt.Given as goal

abbrev pub invariant-loop-rest : goal.invariant-loop-rest
invariant-loop-rest l = (l.to.items ++ spelt l.rest ≡ l.fn.to.items ++ spelt l.pattern) × shadow (Utf8 l.rest)

abbrev pub decreases-loop-rest : goal.decreases-loop-rest
decreases-loop-rest l = length l.rest
