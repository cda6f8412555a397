-- What stands under the name of a group.
use Rattle.std.specs.Prelude.{ℕ, Bool, List, [], ◌∷◌, Ok, codes, if◌then◌else◌}
use Rattle.std.specs.Str.{bytes_eq}
use Rattle.serde_json.specs.Data as json
use Rattle.pb_value.specs.Reading.{and_then, map_ok}
use Rattle.pb_reading.specs.Fields.{◌>>=◌, Part, field_or, others, no_other, object, rule}
use Rattle.pb_reading.specs.Reading.{Reading, wrong, each, each_of}
use Rattle.pb_inventory.specs.Graph.{all, ungrouped}
use Rattle.pb_inventory.specs.Values.{group_vars}
use Rattle.pb_inventory.specs.Vars.{no_vars}
use Rattle.pb_inventory.specs.declared.group.GroupEntry.{GroupEntry}
use Rattle.pb_inventory.specs.declared.group.NoOtherKey.{NoOtherKey}
use Rattle.pb_inventory.specs.declared.fault.InvFault.{InvFault}

-- the name of a host or group is a text that isn't empty
abbrev pub name : List ℕ → json.Data → Reading (List ℕ) InvFault
name path (json.string []) = wrong path
name path (json.string (b ∷ bs)) = Ok (b ∷ bs)
name path d = wrong path

-- the group `ungrouped` has no children, and is a child of `all` alone
abbrev pub child : List ℕ → json.Data → Reading (List ℕ) InvFault
child path d = and_then (name path d) (λ n. if bytes_eq n ungrouped then wrong path else Ok n)

-- a child of `ungrouped`, which has none: whatever stands there is refused
abbrev pub no_child : List ℕ → json.Data → Reading (List ℕ) InvFault
no_child path d = wrong path

-- a group's object: each of its keys may be left out, and there is no other
abbrev pub key_or : {A : Type 0} → List ℕ → (List ℕ → json.Data → Reading A InvFault) → A → Part NoOtherKey InvFault A
key_or = field_or no_other

unfoldable pub fields : (List ℕ → json.Data → Reading (List ℕ) InvFault) → List ℕ → json.Data → Reading GroupEntry InvFault
fields child_name path = object (record {}) (do
  children ← key_or (codes "children") (each_of child_name) []
  hosts ← key_or (codes "hosts") (each_of name) []
  vars ← key_or (codes "vars") group_vars no_vars
  _ ← others no_other
  rule (Ok (record { children = children; hosts = hosts; vars = vars }))) path

-- a group is a list of its hosts, or an object
abbrev pub hosts_alone : List (List ℕ) → GroupEntry
hosts_alone names = record { children = []; hosts = names; vars = no_vars }

-- what stands under the name of a group, where `child_name` reads its children; anything but a list and an object is refused
abbrev pub entry : (List ℕ → json.Data → Reading (List ℕ) InvFault) → List ℕ → json.Data → Reading GroupEntry InvFault
entry child_name path (json.array ds) = map_ok hosts_alone (each name path 0 ds)
entry child_name path (json.object ms) = fields child_name path (json.object ms)
entry child_name path d = wrong path

-- what stands under the name of this group, at this path: only `all` may have `ungrouped` as a child, and `ungrouped` has none
abbrev pub entry_of : List ℕ → List ℕ → json.Data → Reading GroupEntry InvFault
entry_of group path d =
    if bytes_eq group all then entry name path d
    else (if bytes_eq group ungrouped then entry no_child path d
    else entry child path d)
