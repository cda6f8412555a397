-- The names of the hosts in the open batch, in host order.
use Rattle.std.specs.Prelude.{ℕ, Bool, List, [], ◌∷◌, ◌++◌, Option, Some, None, option_map, if◌then◌else◌}
use Rattle.pb_host.specs.Host.{HostOf}

-- the name of a host, if it is in the batch; nothing where it isn't known whether it is
abbrev pub name_if : List ℕ → Option Bool → List (List ℕ)
name_if name None = []
name_if name (Some is_in) = if is_in then name ∷ [] else []

-- the same by the row of the host
abbrev pub name_if_in : List ℕ → Option HostOf → List (List ℕ)
name_if_in name row = name_if name (option_map (λ (r : HostOf). r.in_batch) row)

abbrev pub batch_names : List (List ℕ) → List HostOf → List (List ℕ)
batch_names [] rows = []
batch_names (name ∷ names) [] = []
batch_names (name ∷ names) (row ∷ rows) = name_if_in name (Some row) ++ batch_names names rows
