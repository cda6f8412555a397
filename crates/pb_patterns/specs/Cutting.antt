-- What the code counts while it cuts a pattern.
use Rattle.std.specs.Prelude.{ℕ, ◌+◌, Bool, false, ◌==◌, List, [], ◌∷◌, if◌then◌else◌}
use Rattle.pb_patterns.specs.Spelling.{is_cut, depth_behind}

-- how many bytes stand before the first cut behind so many open brackets
abbrev pub piece_size : ℕ → List ℕ → ℕ
piece_size depth [] = 0
piece_size depth (b ∷ bs) = if is_cut depth b then 0 else piece_size (depth_behind depth b) bs + 1

abbrev pub begins_with_space : List ℕ → Bool
begins_with_space [] = false
begins_with_space (b ∷ bs) = b == 32
