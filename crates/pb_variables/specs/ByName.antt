-- What stands under a name among magic variables and among a host's variables: said by the name, whatever the order in which they are put.
use Rattle.std.specs.Prelude.{ℕ, zero, suc, List, [], ◌∷◌, length, Option, Some, None, option_map, if◌then◌else◌}
use Rattle.std.specs.Option.{option_or}
use Rattle.std.specs.Str.{bytes_eq}
use Rattle.pb_value.specs.Datum.{Datum, dict, members_of, entries_of, value_at}
use Rattle.pb_facts.specs.Book.{row_of}
use Rattle.pb_facts.specs.Facts.{FactsOf, gathered_layer}
use Rattle.pb_inventory.specs.InventoryOf.{InventoryOf}
use Rattle.pb_inventory.specs.Vars.{host_name, group_name, names_of_hosts, vars_of_host, last_given, groups_of_host}
use Rattle.pb_variables.specs.Magic.{texts, variables_of}

-- of the first so many numbers the last that has the name
abbrev pub last_number : (ℕ → List ℕ) → List ℕ → ℕ → Option ℕ
last_number name_of name zero = None
last_number name_of name (suc n) = if bytes_eq name (name_of n) then Some n else last_number name_of name n

-- the value of the last of the entries that has the name
abbrev pub last_at : List ℕ → List (List ℕ × Datum) → Option Datum
last_at name [] = None
last_at name (e ∷ es) = option_or (last_at name es) (if bytes_eq name e.0 then Some e.1 else None)

-- what stands under a name in a value that is a dict
abbrev pub value_in : List ℕ → Option Datum → Option Datum
value_in name (Some (dict ms)) = value_at name (entries_of ms)
value_in name _ = None

-- under a group's name in `groups`: the names of its hosts
abbrev pub hosts_under : InventoryOf → List ℕ → Option Datum
hosts_under inventory name = option_map (λ g. texts (names_of_hosts inventory g)) (last_number (group_name inventory) name (length inventory.groups))

-- under a host's name in `hostvars`: its variables
abbrev pub variables_under : InventoryOf → List (List ℕ × Datum) → List FactsOf → List ℕ → Option Datum
variables_under inventory extra learnt name =
    option_map (λ h. dict (members_of (variables_of inventory extra learnt h))) (last_number (host_name inventory) name (length inventory.hosts))

-- a host's variable of a name in the inventory: its own, else that of the last of its groups that has it
abbrev pub stored_for : InventoryOf → ℕ → List ℕ → Option Datum
stored_for inventory host name = option_or (last_at name (vars_of_host inventory host)) (last_given inventory name (groups_of_host inventory host))

-- a host's variable of a name: the extra variable, else what was set or registered for it, else what was gathered of it, else that of the inventory
abbrev pub variable_of_host : InventoryOf → List (List ℕ × Datum) → List FactsOf → ℕ → List ℕ → Option Datum
variable_of_host inventory extra learnt host name =
    option_or
    (last_at name extra)
    (option_or
    (last_at name (row_of learnt host).set)
    (option_or (last_at name (gathered_layer (row_of learnt host).gathered)) (stored_for inventory host name)))
