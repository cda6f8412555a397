-- Names and values, one of each for each entry of a dict.
use Rattle.std.specs.Prelude.{◌≡◌, ℕ, List, length, zip}
use Rattle.pb_value.specs.Datum.{Datum}

-- these names with these values, at the same places, are all entries of the dict
abbrev pub IsRow : (names : List (List ℕ)) (values : List Datum) (dict : List (List ℕ × Datum)) → Type 0
IsRow names values dict = (dict ≡ zip names values) × (length names ≡ length values)
