-- The hosts that have a count, in host order: the recap's text and the line of statistics name these.
use Rattle.std.specs.Prelude.{ℕ, List, [], ◌∷◌, ◌++◌, Option, Some, None, if◌then◌else◌}
use Rattle.pb_host.specs.declared.host.Counts.{Counts}
use Rattle.pb_recap.specs.Kinds.{has_count}

-- a host beside its counts, if one of them isn't 0
abbrev pub host_if_counted : List ℕ → Option Counts → List (List ℕ × Counts)
host_if_counted name None = []
host_if_counted name (Some counts) = if has_count counts then (name, counts) ∷ [] else []

-- the hosts that have a count; names and counts stand in the same order, and what one list has beyond the other is left out
abbrev pub hosts_with_count : List (List ℕ) → List Counts → List (List ℕ × Counts)
hosts_with_count [] all = []
hosts_with_count (name ∷ names) [] = []
hosts_with_count (name ∷ names) (counts ∷ all) = host_if_counted name (Some counts) ++ hosts_with_count names all
