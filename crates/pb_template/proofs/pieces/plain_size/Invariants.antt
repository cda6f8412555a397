use Rattle.std.proofs.Common.{◌≡◌, ◌+◌, ◌-◌, ◌≤◌, drop, length}
use Rattle.pb_template.specs.Pieces.{plain_size}
use Rattle.pb_template.proofs.pieces.plain_size.Given as goal

abbrev pub invariant-loop-n : goal.invariant-loop-n
invariant-loop-n l = (plain_size l.bytes ≡ l.n + plain_size (drop l.n l.bytes)) × (l.n ≤ length l.bytes)

abbrev pub decreases-loop-n : goal.decreases-loop-n
decreases-loop-n l = length l.bytes - l.n
