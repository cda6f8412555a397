use Rattle.std.proofs.Common.{◌≡◌, ◌≤◌, length}
use Rattle.std.specs.Str.{IsUtf8}
use Rattle.pb_outcome.specs.Output.{stripped}
use Rattle.pb_outcome.proofs.output.stripped.Given as goal

abbrev pub invariant-loop-shorter : goal.invariant-loop-shorter
invariant-loop-shorter l = (stripped l.text ≡ stripped l.rest) × IsUtf8 l.rest × (length l.rest ≤ length l.text)

abbrev pub decreases-loop-shorter : goal.decreases-loop-shorter
decreases-loop-shorter l = length l.rest
