-- What is written of warnings.
use Rattle.std.specs.Prelude.{ℕ, List, ◌++◌, codes}
use Rattle.std.specs.List.{flat_map}
use Rattle.pb_cli.specs.World.{Stream, IsPut}

-- a line with its end
abbrev pub ended : List ℕ → List ℕ
ended line = line ++ codes "\n"

-- the text of these lines; empty where there are none
abbrev pub warning_text : List (List ℕ) → List ℕ
warning_text lines = flat_map ended lines

-- all lines are written, or a part of them, behind which the writer failed
abbrev pub IsWarned : List (List ℕ) → (before after : Stream) → Type 0
IsWarned lines before after = IsPut (warning_text lines) before after
