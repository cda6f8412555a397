-- Things under names.
use Rattle.std.specs.Prelude.{ℕ, List, [], ◌∷◌, Option, if◌then◌else◌}
use Rattle.std.specs.Map.{lookup}
use Rattle.std.specs.Str.{bytes_eq}

-- what stands under a name
abbrev pub under : {X : Type 0} → List ℕ → List (List ℕ × X) → Option X
under name entries = lookup (bytes_eq name) entries

-- the entries with x under the name: one that is there is replaced, and a new one goes last
abbrev pub with_entry : {X : Type 0} → List ℕ → X → List (List ℕ × X) → List (List ℕ × X)
with_entry name x [] = (name, x) ∷ []
with_entry name x (entry ∷ entries) = if bytes_eq name entry.0 then (entry.0, x) ∷ entries else entry ∷ with_entry name x entries
