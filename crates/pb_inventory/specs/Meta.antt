-- What stands under `_meta`: the variables of hosts.
use Rattle.std.specs.Prelude.{ℕ, Bool, List, [], Ok, codes, if◌then◌else◌}
use Rattle.std.specs.Str.{bytes_eq}
use Rattle.serde_json.specs.Data as json
use Rattle.pb_value.specs.Datum.{Datum}
use Rattle.pb_value.specs.Reading.{map_ok}
use Rattle.pb_reading.specs.Fields.{◌>>=◌, Part, field_or, others, object, rule}
use Rattle.pb_reading.specs.Reading.{Reading, wrong, each_named_of}
use Rattle.pb_inventory.specs.Named.{with_entry}
use Rattle.pb_inventory.specs.Values.{variable_value}
use Rattle.pb_inventory.specs.declared.meta.PassedOver.{PassedOver}
use Rattle.pb_inventory.specs.declared.fault.InvFault.{InvFault}

-- the variables of hosts, under the hosts' names
abbrev pub MetaVars : Type 0
MetaVars = List (List ℕ × List (List ℕ × Datum))

-- the name of a host isn't empty, and an object stands under it, with a value under each name
abbrev pub with_host : MetaVars → List ℕ → List ℕ → json.Data → Reading MetaVars InvFault
with_host known path k d =
    if bytes_eq k [] then wrong path
    else map_ok (λ vars. with_entry k vars known) (each_named_of variable_value path d)

-- what stands under `hostvars`: an object, with the variables of a host under each name
abbrev pub host_entries : List ℕ → json.Data → Reading MetaVars InvFault
host_entries = object [] (others with_host)

-- a key of `_meta` other than `hostvars` doesn't count
abbrev pub passed : PassedOver → List ℕ → List ℕ → json.Data → Reading PassedOver InvFault
passed told path k d = Ok told

unfoldable pub meta : List ℕ → json.Data → Reading MetaVars InvFault
meta path = object (record {}) (do
  host_vars ← field_or passed (codes "hostvars") host_entries []
  _ ← others passed
  rule (Ok host_vars)) path
