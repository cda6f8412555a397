-- The variables of groups and hosts (Ansible's documentation, "How variables are merged").
use Rattle.std.specs.Prelude.{ℕ, ℤ, pos, Bool, not, ◌&&◌, List, [], ◌∷◌, map, filter, length, slice_index_or, Option, Some, None, is_some, position, unwrap_or, codes, if◌then◌else◌}
use Rattle.std.specs.List.{range_with_len}
use Rattle.std.specs.Map.{keys_of}
use Rattle.std.specs.Option.{option_or}
use Rattle.std.specs.Str.{bytes_eq}
use Rattle.pb_ids.specs.declared.numbers.GroupNo.{GroupNo}
use Rattle.pb_value.specs.Datum.{Datum, int, put}
use Rattle.pb_groups.specs.GroupsOf.{GroupsOf}
use Rattle.pb_groups.specs.Merging.{merge_order, has_member}
use Rattle.pb_inventory.specs.declared.vars.GroupVars.{GroupVars}
use Rattle.pb_inventory.specs.declared.vars.Variable.{Variable}
use Rattle.pb_inventory.specs.InventoryOf.{InventoryOf}
use Rattle.pb_inventory.specs.Graph.{all}
use Rattle.pb_inventory.specs.Named.{under}

-- the priority of a group that gives none, or gives it as something else than a whole number
abbrev pub usual : ℤ
usual = pos 1

-- the priority that a value gives
abbrev pub priority_in : Datum → ℤ
priority_in (int z) = z
priority_in d = usual

-- whether a group's priority stands under this name, and no variable
abbrev pub is_priority : List ℕ → Bool
is_priority name = bytes_eq name (codes "ansible_group_priority")

-- what a group has whose variables the file doesn't give: none, and the usual priority
abbrev pub no_vars : GroupVars
no_vars = record { priority = usual; vars = [] }

-- the variables and the priority that stand under the name of a group
abbrev pub vars_under : List ℕ → List (List ℕ × GroupVars) → GroupVars
vars_under name entries = unwrap_or (under name entries) no_vars

-- the priorities of the groups of these names, in their order
abbrev pub priorities_in : List (List ℕ × GroupVars) → List (List ℕ) → List ℤ
priorities_in entries groups = map (λ name. (vars_under name entries).priority) groups

-- the name of the host with this number; empty where there is no such host
abbrev pub host_name : InventoryOf → ℕ → List ℕ
host_name inventory host = slice_index_or inventory.hosts host []

-- the name of the group with this number; empty where there is no such group
abbrev pub group_name : InventoryOf → ℕ → List ℕ
group_name inventory group = slice_index_or inventory.groups group []

-- the variables of a group itself
abbrev pub vars_of_group : InventoryOf → ℕ → List Variable
vars_of_group inventory group = (vars_under (group_name inventory group) inventory.group_vars).vars

-- the groups of an inventory by their numbers, and their priorities
abbrev pub graph_of : InventoryOf → GroupsOf
graph_of inventory = record { hosts = length inventory.hosts; groups = length inventory.groups; own = inventory.own; links = inventory.links }

abbrev pub priorities_of : InventoryOf → List ℤ
priorities_of inventory = priorities_in inventory.group_vars inventory.groups

-- the groups of a host in the order in which their variables merge: by depth, then by priority, then by name, since groups are numbered in
-- byte order of their names
abbrev pub groups_of_host : InventoryOf → ℕ → List GroupNo
groups_of_host inventory host = merge_order (graph_of inventory) (priorities_of inventory) host

-- each variable in turn under its name, in place of one that stands there
abbrev pub put_vars : List Variable → List (List ℕ × Datum) → List (List ℕ × Datum)
put_vars [] known = known
put_vars (v ∷ vs) known = put_vars vs (put v.name v.value known)

-- the variables of each group in turn: those of a later group override
abbrev pub put_groups : InventoryOf → List GroupNo → List (List ℕ × Datum) → List (List ℕ × Datum)
put_groups inventory [] known = known
put_groups inventory (g ∷ gs) known = put_groups inventory gs (put_vars (vars_under (group_name inventory g.0) inventory.group_vars).vars known)

-- the variables that a host has from its groups
abbrev pub vars_from_groups : InventoryOf → ℕ → List (List ℕ × Datum)
vars_from_groups inventory host = put_groups inventory (groups_of_host inventory host) []

-- the value of the last of the variables that has the name
abbrev pub last_named : List ℕ → List Variable → Option Datum
last_named name [] = None
last_named name (v ∷ vs) = option_or (last_named name vs) (if bytes_eq name v.name then Some v.value else None)

-- the value from the last of the groups that has the name
abbrev pub last_given : InventoryOf → List ℕ → List GroupNo → Option Datum
last_given inventory name [] = None
last_given inventory name (g ∷ gs) = option_or (last_given inventory name gs) (last_named name (vars_under (group_name inventory g.0) inventory.group_vars).vars)

-- the variables of a host itself
abbrev pub vars_of_host : InventoryOf → ℕ → List (List ℕ × Datum)
vars_of_host inventory host = unwrap_or (under (host_name inventory host) inventory.host_vars) []

-- whether some host has the name
abbrev pub is_host : InventoryOf → List ℕ → Bool
is_host inventory name = is_some (position (bytes_eq name) inventory.hosts)

-- the names that have variables in `_meta` and are no hosts
abbrev pub strangers : InventoryOf → List (List ℕ)
strangers inventory = filter (λ name. not (is_host inventory name)) (keys_of inventory.host_vars)

-- whether a host's list of its groups' names has the group: all but `all` are there
abbrev pub is_named : InventoryOf → ℕ → ℕ → Bool
is_named inventory host group = has_member (graph_of inventory) group host && not (bytes_eq (group_name inventory group) all)

-- the names of the groups that have the host, all but `all`, in byte order
abbrev pub names_of_groups : InventoryOf → ℕ → List (List ℕ)
names_of_groups inventory host = map (group_name inventory) (filter (is_named inventory host) (range_with_len 0 (length inventory.groups)))

-- the names of a group's hosts, in the order of their numbers
abbrev pub names_of_hosts : InventoryOf → ℕ → List (List ℕ)
names_of_hosts inventory group = map (host_name inventory) (filter (has_member (graph_of inventory) group) (range_with_len 0 (length inventory.hosts)))
