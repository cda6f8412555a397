-- What `hostvars` stands for once one host alone has learnt something.
use Rattle.std.specs.Prelude.{◌≡◌, ◌≢◌, ℕ, List}
use Rattle.pb_value.specs.Datum.{Datum, dict, members_of}
use Rattle.pb_facts.specs.Book.{row_of}
use Rattle.pb_facts.specs.Facts.{FactsOf, known_of}
use Rattle.pb_facts.specs.Update.{IsBetween}
use Rattle.pb_facts.specs.declared.update.FactsUndo.{FactsUndo}
use Rattle.pb_inventory.specs.InventoryOf.{InventoryOf}
use Rattle.pb_inventory.specs.Vars.{vars_from_groups, vars_of_host}
use Rattle.pb_variables.specs.Magic.{hostvars, hostvars_map, hosts_magic}

-- the hosts, by their numbers, have learnt now what they had learnt before, but for this host
abbrev pub LearnsAlone : ℕ → List FactsOf → List FactsOf → Type 0
LearnsAlone host before now = (other : ℕ) → other ≢ host → row_of now other ≡ row_of before other

-- the variables of a host that has learnt this, as they are stored
abbrev pub value_of : InventoryOf → List (List ℕ × Datum) → FactsOf → ℕ → Datum
value_of inventory extra facts host = dict (members_of (known_of (vars_from_groups inventory host) (vars_of_host inventory host) facts extra))

-- the map of all hosts' variables, old, and the magic variable, new, where this host alone has learnt something: this lies between what it had learnt
-- and what it has learnt now
abbrev pub IsRenewedMap : InventoryOf → List (List ℕ × Datum) → FactsUndo → FactsOf → ℕ → List (List ℕ × Datum) → List (List ℕ × Datum) → Type 0
IsRenewedMap inventory extra past facts host old new =
    (before now : List FactsOf) → LearnsAlone host before now → facts ≡ row_of now host → IsBetween past (row_of before host) facts → old ≡ hostvars_map inventory extra before
    → new ≡ hosts_magic (hostvars inventory extra now)

-- the same of the magic variable `hostvars`, old and new
abbrev pub IsRenewedBetween : InventoryOf → List (List ℕ × Datum) → FactsUndo → FactsOf → ℕ → List (List ℕ × Datum) → List (List ℕ × Datum) → Type 0
IsRenewedBetween inventory extra past facts host old new =
    (before now : List FactsOf) → LearnsAlone host before now → facts ≡ row_of now host → IsBetween past (row_of before host) facts → old ≡ hosts_magic (hostvars inventory extra before)
    → new ≡ hosts_magic (hostvars inventory extra now)
