use Rattle.std.proofs.Common.{◌≡◌, ◌+◌, ◌≤◌, drop}
use Rattle.pb_patterns.specs.Cutting.{piece_size}
use Rattle.pb_patterns.proofs.spelling.piece_size.Given as goal

abbrev pub invariant-loop-at : goal.invariant-loop-at
invariant-loop-at l = (piece_size 0 l.bytes ≡ l.at + piece_size l.depth (drop l.at l.bytes)) × (l.depth ≤ l.at)
