-- What a result shows of a program's output: the text without the line ends at its end, and its lines.
use Rattle.std.specs.Prelude.{ℕ, Bool, ◌==◌, ◌||◌, List, [], ◌∷◌, map, if◌then◌else◌}
use Rattle.std.specs.List.{slice_split}
use Rattle.pb_value.specs.Datum.{Datum, text}

-- LF and CR
abbrev pub is_line_end : ℕ → Bool
is_line_end b = b == 10 || b == 13

-- a byte in front of what is kept behind it: a line end with nothing behind it goes
abbrev pub kept : ℕ → List ℕ → List ℕ
kept b [] = if is_line_end b then [] else b ∷ []
kept b (c ∷ cs) = b ∷ c ∷ cs

-- the text without the line ends at its end
abbrev pub stripped : List ℕ → List ℕ
stripped [] = []
stripped (b ∷ bs) = kept b (stripped bs)

-- LF alone
abbrev pub is_newline : ℕ → Bool
is_newline b = b == 10

-- the lines of a text, cut at each LF; the empty text has none
abbrev pub lines_of : List ℕ → List (List ℕ)
lines_of [] = []
lines_of (b ∷ bs) = slice_split is_newline (b ∷ bs)

abbrev pub line_values : List ℕ → List Datum
line_values s = map text (lines_of s)
