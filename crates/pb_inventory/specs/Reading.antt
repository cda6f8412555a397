-- What the bytes of an inventory list, or the first fault in them: the keys of an object are looked at in byte order, and lists from the
-- front. The form is that of the JSON that Ansible's inventory scripts write (Ansible's documentation, "Developing dynamic inventory").
use Rattle.std.specs.Prelude.{ℕ, List, [], ◌∷◌, ◌++◌, length, nat_le, Result, Ok, Err, Option, Some, None, codes, if◌then◌else◌}
use Rattle.std.specs.Str.{bytes_eq}
use Rattle.serde_json.specs.Data as json
use Rattle.pb_value.specs.Bytes.{json_in}
use Rattle.pb_value.specs.Datum.{Datum}
use Rattle.pb_value.specs.Reading.{and_then, map_ok}
use Rattle.pb_reading.specs.Fields.{◌>>=◌, field_or, others, object, rule}
use Rattle.pb_reading.specs.Reading as reading
use Rattle.pb_reading.specs.Reading.{Reading, wrong}
use Rattle.pb_inventory.specs.InventoryOf.{InventoryOf}
use Rattle.pb_inventory.specs.GraphOf.{GraphOf}
use Rattle.pb_inventory.specs.Graph.{group_names, host_names, own_of, links_of, has_cycle, max_groups}
use Rattle.pb_inventory.specs.Group.{entry_of}
use Rattle.pb_inventory.specs.Meta.{meta}
use Rattle.pb_inventory.specs.Named.{with_entry}
use Rattle.pb_inventory.specs.declared.group.GroupEntry.{GroupEntry}
use Rattle.pb_inventory.specs.declared.listed.Listed.{Listed}
use Rattle.pb_inventory.specs.declared.listed.FileEntries.{FileEntries}
use Rattle.pb_inventory.specs.declared.reading.FileGroups.{FileGroups}
use Rattle.pb_inventory.specs.declared.vars.GroupVars.{GroupVars}
use Rattle.pb_inventory.specs.declared.fault.InvFault.{InvFault}
use Rattle.pb_inventory.specs.declared.fault.InvFault.TheVariants.{NotJson, WrongShape, TooManyHosts, TooManyGroups, Cycle}

-- the groups of a file, one after another; the name of a group isn't empty
abbrev pub no_groups : FileGroups
no_groups = record { listed = []; vars = [] }

-- the groups with one more behind them, and its variables under its name
abbrev pub with_group : List ℕ → GroupEntry → FileGroups → FileGroups
with_group name entry known =
    record { listed = known.listed ++ record { name = name; hosts = entry.hosts; children = entry.children } ∷ []; vars = with_entry name entry.vars known.vars }

-- the groups with the one that stands under this key of the file, at this path
abbrev pub with_entry_of : FileGroups → List ℕ → List ℕ → json.Data → Reading FileGroups InvFault
with_entry_of known path k d = if bytes_eq k [] then wrong path else map_ok (λ entry. with_group k entry known) (entry_of k path d)

-- the file is an object: each of its keys but `_meta` is a group
unfoldable pub file : List ℕ → json.Data → Reading FileEntries InvFault
file path = object no_groups (do
  host_vars ← field_or with_entry_of (codes "_meta") meta []
  groups ← others with_entry_of
  rule (Ok (record { groups = groups.listed; group_vars = groups.vars; host_vars = host_vars }))) path

-- the fault of an inventory for that of a reading
abbrev pub of_reading : Reading FileEntries InvFault → Result FileEntries InvFault
of_reading (Ok file) = Ok file
of_reading (Err (reading.WrongShape path)) = Err (WrongShape path)
of_reading (Err (reading.Own e)) = Err e

-- what the file's JSON says, or the first fault in it
abbrev pub file_in : json.Data → Result FileEntries InvFault
file_in d = of_reading (file [] d)

-- how many hosts an inventory may have
abbrev pub max_hosts : ℕ
max_hosts = 1048576

-- limits come after all faults of shape, and a cycle is the last
abbrev pub graph_from : List (List ℕ) → List (List ℕ) → List Listed → Result GraphOf InvFault
graph_from groups hosts listed =
    if nat_le (length groups) max_groups then (
    if nat_le (length hosts) max_hosts then (
    if has_cycle (links_of groups listed) (length groups) then Err Cycle
    else Ok (record { hosts = hosts; groups = groups; own = own_of groups hosts listed; links = links_of groups listed }))
    else Err TooManyHosts)
    else Err TooManyGroups

-- the hosts and groups that a file lists, or the fault that there are too many of them, or a cycle
abbrev pub graph_in : List Listed → Result GraphOf InvFault
graph_in listed = graph_from (group_names listed) (host_names listed) listed

abbrev pub with_vars : GraphOf → List (List ℕ × GroupVars) → List (List ℕ × List (List ℕ × Datum)) → InventoryOf
with_vars graph group_vars host_vars =
    record { hosts = graph.hosts; groups = graph.groups; own = graph.own; links = graph.links; group_vars = group_vars; host_vars = host_vars }

-- the inventory that a file's entries are, or that fault
abbrev pub limited : FileEntries → Result InventoryOf InvFault
limited file = map_ok (λ graph. with_vars graph file.group_vars file.host_vars) (graph_in file.groups)

-- the inventory that a file spells, if it is JSON, or the first fault in it
abbrev pub of_json : Option json.Data → Result InventoryOf InvFault
of_json None = Err NotJson
of_json (Some d) = and_then (file_in d) limited

-- the inventory that the bytes spell, or the first fault in them
unfoldable pub inventory_of : List ℕ → Result InventoryOf InvFault
inventory_of bytes = of_json (json_in bytes)
