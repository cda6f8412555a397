use Rattle.std.proofs.Common.{◌≡◌, List, ◌++◌, take, drop}
use Rattle.std.specs.Option.{option_map}
use Rattle.pb_template.specs.Computed.{parts_in, first_among}
use Rattle.pb_template.specs.Parts.{AreParts}
use Rattle.pb_template.specs.declared.template.Part.{Part}
use Rattle.pb_template.proofs.template.parts_of.Given as goal

abbrev pub invariant-loop-piece : goal.invariant-loop-piece
invariant-loop-piece l =
    AreParts (take l.piece-index l.pieces) l.parts.items × ((qs : List Part) → AreParts (take l.piece-index l.pieces) qs → qs ≡ l.parts.items)
    × (parts_in l.pieces ≡ option_map (λ r. l.parts.items ++ r) (parts_in (drop l.piece-index l.pieces)))
    × (first_among l.pieces ≡ first_among (drop l.piece-index l.pieces))
