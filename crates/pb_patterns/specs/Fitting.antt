-- What the code keeps while it fits a name to a pattern, from the name's last character on.
use Rattle.std.specs.Prelude.{◌≡◌, ◌≤◌, ℕ, ◌+◌, Bool, false, ◌&&◌, ◌||◌, ◌==◌, List, length, drop, slice_index_or, if◌then◌else◌}
use Rattle.pb_patterns.specs.Globs.{fits}

-- of each end of the pattern whether these characters fit it
abbrev pub IsRow : List ℕ → List ℕ → List Bool → Type 0
IsRow pattern cs row = (length row ≡ length pattern + 1) × ((at : ℕ) → at ≤ length pattern → slice_index_or row at false ≡ fits (drop at pattern) cs)

-- whether an end that begins with this sign fits no character, from what the end behind the sign fits
abbrev pub fits_none : ℕ → Bool → Bool
fits_none sign behind = (sign == 42) && behind

-- whether an end that begins with this sign fits one character more, from what the end behind the sign fits, and what both fitted before
abbrev pub fits_more : ℕ → ℕ → Bool → Bool → Bool → Bool
fits_more sign c behind old old_behind = if sign == 42 then behind || old else (sign == 63 || sign == c) && old_behind
