use Rattle.std.proofs.Common.{◌≡◌, ◌-◌, ◌≤◌, length}
use denote.Shadow.{shadow}
use denote.Text.{Utf8}
use Rattle.pb_template.specs.Pieces.{pieces_from}
use Rattle.pb_template.proofs.Cutting.{found}
use Rattle.pb_template.proofs.pieces.pieces_of.Given as goal

abbrev pub invariant-loop-rest : goal.invariant-loop-rest
invariant-loop-rest l =
    (pieces_from 0 0 l.text ≡ found l.pieces.items (pieces_from 0 (length l.text - length l.rest) l.rest)) × (length l.rest ≤ length l.text) × shadow (Utf8 l.rest)

abbrev pub decreases-loop-rest : goal.decreases-loop-rest
decreases-loop-rest l = length l.rest
