-- A path that isn't empty, with a key behind it.
use Rattle.std.proofs.Common.{◌≡◌, ◌≢◌, ℕ, List, [], ◌∷◌, ◌++◌, refl, sym, append_assoc}
use Rattle.pb_value.specs.Reading.{below}

pub joined : (path key : List ℕ) → path ≢ [] → below path key ≡ (path ++ 47 ∷ []) ++ key
joined [] key some = absurd (some refl)
joined (b ∷ path) key some = sym (append_assoc (b ∷ path) (47 ∷ []) key)
