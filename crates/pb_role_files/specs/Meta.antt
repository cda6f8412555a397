-- What a role says of itself. See Ansible's documentation, "Roles", Using role dependencies, and Running a role multiple times in one play.
use Rattle.std.specs.Prelude.{ℕ, false, List, [], Ok, codes}
use Rattle.serde_json.specs.Data as json
use Rattle.pb_reading.specs.Fields.{◌>>=◌, Part, Telling, field_or, object, others, rule, value_at}
use Rattle.pb_reading.specs.Reading.{Reading, each_of}
use Rattle.pb_written.specs.Faults.{refused_key}
use Rattle.pb_written.specs.Simple.{switched}
use Rattle.pb_written.specs.declared.fault.LoadFault.{LoadFault}
use Rattle.pb_role_entries.specs.RoleEntries.{role_entry}
use Rattle.pb_role_files.specs.declared.meta.NoOthers.{NoOthers}
use Rattle.pb_role_files.specs.declared.meta.RoleMeta.{RoleMeta}

-- no other key is read
abbrev pub refuses : Telling NoOthers LoadFault
refuses told path k d = refused_key path k

-- a role that doesn't say otherwise depends on none, and comes once
abbrev pub own_keys : Part NoOthers LoadFault RoleMeta
own_keys = do
  allow_duplicates ← field_or refuses (codes "allow_duplicates") switched false
  dependencies ← field_or refuses (codes "dependencies") (each_of role_entry) []
  rule (Ok (record { dependencies = dependencies; allow_duplicates = allow_duplicates }))

-- what it tells of itself to those who look for roles isn't read
abbrev pub role_meta : List ℕ → json.Data → Reading RoleMeta LoadFault
role_meta = object (record {}) do
  own_keys ← own_keys
  _ ← value_at refuses (codes "galaxy_info")
  _ ← others refuses
  rule (Ok own_keys)
