-- Worked examples of places that stand in a plan more than once.
use Rattle.std.specs.Prelude.{◌≡◌, true, false, [], ◌∷◌}
use Rattle.pb_tree.specs.Tree.{size_of}
use Rattle.pb_tree.specs.Rows.{flushes, fails}
use Rattle.pb_flat.specs.Places.{copies}

-- two handlers and nine places, the last two of them in a Flush: where that is forced, both stand there twice more. Without it none does
abbrev pub Copies : Type 0
Copies = (size_of (fails true) ≡ 9)
    × (copies (fails true) ≡ 7 ∷ 8 ∷ 7 ∷ 8 ∷ [])
    × (copies (fails false) ≡ [])
    × (size_of flushes ≡ 8)
    × (copies flushes ≡ [])
