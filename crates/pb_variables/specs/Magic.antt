-- The magic variables (Ansible's documentation, "Special variables"), as maps from names to values.
use Rattle.std.specs.Prelude.{ℕ, zero, suc, Bool, List, [], ◌∷◌, map, filter, length, codes}
use Rattle.std.specs.List.{range_with_len}
use Rattle.pb_planes.specs.Set.{is_in}
use Rattle.pb_value.specs.Datum.{Datum, text, list, dict, items_of, members_of, put}
use Rattle.pb_facts.specs.Book.{row_of}
use Rattle.pb_facts.specs.Facts.{FactsOf, known_of}
use Rattle.pb_inventory.specs.InventoryOf.{InventoryOf}
use Rattle.pb_inventory.specs.Vars.{host_name, group_name, vars_from_groups, vars_of_host, names_of_groups, names_of_hosts}

-- the list of these texts
abbrev pub texts : List (List ℕ) → Datum
texts names = list (items_of (map text names))

-- of each of the first so many groups the names of its hosts, in the order of their numbers
abbrev pub first_groups : InventoryOf → ℕ → List (List ℕ × Datum)
first_groups inventory zero = []
first_groups inventory (suc n) = put (group_name inventory n) (texts (names_of_hosts inventory n)) (first_groups inventory n)

-- of all groups the names of their hosts, under the names of the groups
abbrev pub groups_map : InventoryOf → List (List ℕ × Datum)
groups_map inventory = first_groups inventory (length inventory.groups)

-- a host's variables as they are stored, where the hosts have learnt this: those from its groups, over them its own, what it has learnt, and over
-- these the extra variables
abbrev pub variables_of : InventoryOf → List (List ℕ × Datum) → List FactsOf → ℕ → List (List ℕ × Datum)
variables_of inventory extra learnt host = known_of (vars_from_groups inventory host) (vars_of_host inventory host) (row_of learnt host) extra

-- of each of the first so many hosts its variables
abbrev pub first_hosts : InventoryOf → List (List ℕ × Datum) → List FactsOf → ℕ → List (List ℕ × Datum)
first_hosts inventory extra learnt zero = []
first_hosts inventory extra learnt (suc n) = put (host_name inventory n) (dict (members_of (variables_of inventory extra learnt n))) (first_hosts inventory extra learnt n)

-- of all hosts their variables, under the names of the hosts
abbrev pub hostvars_map : InventoryOf → List (List ℕ × Datum) → List FactsOf → List (List ℕ × Datum)
hostvars_map inventory extra learnt = first_hosts inventory extra learnt (length inventory.hosts)

-- what `hostvars` stands for, with the extra variables of a plan, where the hosts have learnt this
unfoldable pub hostvars : InventoryOf → List (List ℕ × Datum) → List FactsOf → Datum
hostvars inventory extra learnt = dict (members_of (hostvars_map inventory extra learnt))

-- the magic variable that tells of all hosts' variables: this value stands for them
abbrev pub hosts_magic : Datum → List (List ℕ × Datum)
hosts_magic hosts = (codes "hostvars", hosts) ∷ []

-- the magic variable of a plan
unfoldable pub plan_magic : InventoryOf → List (List ℕ × Datum)
plan_magic inventory = (codes "groups", dict (members_of (groups_map inventory))) ∷ []

-- the names of the hosts of a set, in the order of their numbers
abbrev pub names_in : InventoryOf → List Bool → List (List ℕ)
names_in inventory hosts = map (host_name inventory) (filter (is_in hosts) (range_with_len 0 (length inventory.hosts)))

-- the magic variable of a play that has these hosts
unfoldable pub play_magic : InventoryOf → List Bool → List (List ℕ × Datum)
play_magic inventory hosts = (codes "ansible_play_hosts_all", texts (names_in inventory hosts)) ∷ []

-- the magic variables of a host of this name, where the names of its groups are these
abbrev pub magic_with : Datum → Datum → List (List ℕ × Datum)
magic_with names name = (codes "group_names", names) ∷ (codes "inventory_hostname", name) ∷ []

-- the magic variables of a host
unfoldable pub host_magic : InventoryOf → ℕ → List (List ℕ × Datum)
host_magic inventory host = magic_with (texts (names_of_groups inventory host)) (text (host_name inventory host))
