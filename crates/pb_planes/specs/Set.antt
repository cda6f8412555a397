-- A set of numbers below a width, as a list that says of each number whether it is in the set.
use Rattle.std.specs.Prelude.{◌≡◌, ◌<◌, ◌≤◌, ℕ, Bool, true, false, List, take, count_by, slice_index_or}
use Rattle.std.specs.List.{list_any}

-- whether some number is in the set
abbrev pub has_some : List Bool → Bool
has_some set = list_any (λ b. b) set

-- whether a number is in the set; none at or above the width is
abbrev pub is_in : List Bool → ℕ → Bool
is_in set i = slice_index_or set i false

-- the least number in the set that is at least `from`
abbrev pub IsNextFrom : List Bool → ℕ → ℕ → Type 0
IsNextFrom set from at = (from ≤ at) × (is_in set at ≡ true) × ((i : ℕ) → from ≤ i → i < at → is_in set i ≡ false)

-- no number in the set is at least `from`
abbrev pub HasNoneFrom : List Bool → ℕ → Type 0
HasNoneFrom set from = (i : ℕ) → from ≤ i → is_in set i ≡ false

-- the number in the set that has this many below it
abbrev pub IsMemberAfter : List Bool → ℕ → ℕ → Type 0
IsMemberAfter set before at = (is_in set at ≡ true) × (count_by (λ b. b) (take at set) ≡ before)
