-- What the answers of a look-up stand for.
use Rattle.std.specs.Prelude.{ℕ, List, Option, map}
use Rattle.std.specs.Borrow.{Bor}
use Rattle.std.specs.Option.{option_map}
use Rattle.pb_value.specs.Datum.{Datum}
use Rattle.pb_value.specs.declared.val.Dict.{Dict}
use Rattle.pb_layers.specs.Scope.{Map}
use Rattle.pb_layers.specs.declared.scope.Found.{Found}

-- a stored value with the number of its layer
abbrev pub found_in : Option Found → Option (ℕ × Datum)
found_in = option_map (λ f. (f.layer, f.value.now))

-- what stands behind references
abbrev pub maps_in : List (Bor Dict) → List Map
maps_in = map (λ m. m.now)

-- a value under a name
abbrev pub seen_in : Option (Bor (List ℕ) × Bor Datum) → Option (List ℕ × Datum)
seen_in = option_map (λ s. (s.0.now, s.1.now))
