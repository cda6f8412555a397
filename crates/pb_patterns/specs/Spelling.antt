-- The texts of a pattern's elements: the pattern is cut at `,` and `:` outside square brackets, and spaces around the pieces and empty
-- pieces are dropped.
use Rattle.std.specs.Prelude.{ℕ, ◌+◌, ◌-◌, Bool, ◌&&◌, ◌||◌, ◌==◌, not, List, [], ◌∷◌, map, filter, take, length, if◌then◌else◌}

-- how many brackets are open behind a byte: a `]` that closes none changes nothing
abbrev pub depth_behind : ℕ → ℕ → ℕ
depth_behind depth b = if b == 91 then depth + 1 else (if b == 93 then depth - 1 else depth)

-- whether the pattern is cut at a byte, where so many brackets are open in front of it
abbrev pub is_cut : ℕ → ℕ → Bool
is_cut depth b = (depth == 0) && (b == 44 || b == 58)

-- a byte in front of the first piece
abbrev pub with_byte : ℕ → List (List ℕ) → List (List ℕ)
with_byte b [] = (b ∷ []) ∷ []
with_byte b (piece ∷ pieces) = (b ∷ piece) ∷ pieces

-- the pieces of what follows so many open brackets
abbrev pub pieces : ℕ → List ℕ → List (List ℕ)
pieces depth [] = [] ∷ []
pieces depth (b ∷ bs) = if is_cut depth b then [] ∷ pieces 0 bs else with_byte b (pieces (depth_behind depth b) bs)

-- without the spaces in front
abbrev pub front_trimmed : List ℕ → List ℕ
front_trimmed [] = []
front_trimmed (b ∷ bs) = if b == 32 then front_trimmed bs else b ∷ bs

-- how many bytes stand before the spaces at the end
abbrev pub end_size : List ℕ → ℕ
end_size [] = 0
end_size (b ∷ bs) = if (b == 32) && (end_size bs == 0) then 0 else end_size bs + 1

-- without the spaces at the end
abbrev pub end_trimmed : List ℕ → List ℕ
end_trimmed bs = take (end_size bs) bs

-- without the spaces at both ends
abbrev pub trimmed : List ℕ → List ℕ
trimmed bs = end_trimmed (front_trimmed bs)

-- whether a text isn't empty
abbrev pub is_some_text : List ℕ → Bool
is_some_text bs = not (length bs == 0)

-- the texts of the elements that these pieces are
abbrev pub texts_of : List (List ℕ) → List (List ℕ)
texts_of pieces = filter is_some_text (map trimmed pieces)

-- the texts of a pattern's elements
abbrev pub spelt : List ℕ → List (List ℕ)
spelt text = texts_of (pieces 0 text)
