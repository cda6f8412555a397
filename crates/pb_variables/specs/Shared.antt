-- What hosts of the same groups have alike.
use Rattle.std.specs.Prelude.{◌≡◌, ℕ, List, map, Option, Some, slice_get}
use Rattle.pb_value.specs.Datum.{Datum}
use Rattle.pb_inventory.specs.InventoryOf.{InventoryOf}
use Rattle.pb_inventory.specs.Vars.{groups_of_host, vars_from_groups, names_of_groups}
use Rattle.pb_variables.specs.Magic.{texts}
use Rattle.pb_variables.specs.declared.shared.OfGroups.{OfGroups}

-- the variables of a host's groups, merged, and the names of these groups
abbrev pub with_names : List (List ℕ × Datum) → List (List ℕ) → OfGroups
with_names variables names = record { variables = variables; names = texts names }

-- what a host has from its groups
abbrev pub from_groups : InventoryOf → ℕ → OfGroups
from_groups inventory host = with_names (vars_from_groups inventory host) (names_of_groups inventory host)

-- the numbers of a host's groups, in the order in which their variables merge
abbrev pub numbers_of_host : InventoryOf → ℕ → List ℕ
numbers_of_host inventory host = map (λ g. g.0) (groups_of_host inventory host)

-- what is kept for a host, if something is, is what it has from its groups
abbrev pub IsKeptFor : InventoryOf → ℕ → Option OfGroups → Type 0
IsKeptFor inventory host kept = (of : OfGroups) → kept ≡ Some of → of ≡ from_groups inventory host

-- so is what is found under the numbers of a host's groups
abbrev pub FindsKept : InventoryOf → (List ℕ → Option OfGroups) → Type 0
FindsKept inventory found = (host : ℕ) → IsKeptFor inventory host (found (numbers_of_host inventory host))

-- and what is kept for each host, by its number
abbrev pub AreKept : InventoryOf → List (Option OfGroups) → Type 0
AreKept inventory all = (host : ℕ) (kept : Option OfGroups) → slice_get all host ≡ Some kept → IsKeptFor inventory host kept
