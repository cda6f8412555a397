-- What a picker that goes round picks.
use Rattle.std.specs.Prelude.{ℕ, ◌⊎◌, Bool, List}
use Rattle.pb_planes.specs.Set.{IsNextFrom, HasNoneFrom}

-- the least number of a set from this one on, or the least of all where there is none
abbrev pub IsNextRound : List Bool → ℕ → ℕ → Type 0
IsNextRound set from at = IsNextFrom set from at ⊎ (HasNoneFrom set from × IsNextFrom set 0 at)
