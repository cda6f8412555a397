-- Names, each once, in the order of their first mention.
use Rattle.std.specs.Prelude.{ℕ, List, [], ◌∷◌, ◌++◌, if◌then◌else◌}
use Rattle.std.specs.List.{list_any}
use Rattle.std.specs.Str.{bytes_eq}

-- a name that is among the known ones keeps its place, and a new one goes last
abbrev pub with_name : List ℕ → List (List ℕ) → List (List ℕ)
with_name name known = if list_any (bytes_eq name) known then known else known ++ name ∷ []
