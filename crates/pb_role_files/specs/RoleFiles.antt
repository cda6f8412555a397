-- The files of a role: what the bytes of each spell, or the first fault in them.
-- See Ansible's documentation, "Roles", Role directory structure; the files are JSON (RFC 8259) in place of YAML.
use Rattle.std.specs.Prelude.{ℕ, List, [], Result, Ok, Err, Option, Some, None}
use Rattle.serde_json.specs.Data as json
use Rattle.pb_value.specs.Bytes.{json_in}
use Rattle.pb_value.specs.Datum.{Datum}
use Rattle.pb_reading.specs.Reading.{Reading, each_of, each_named_of}
use Rattle.pb_written.specs.Faults.{as_load_fault}
use Rattle.pb_written.specs.Values.{template_value}
use Rattle.pb_written.specs.declared.fault.LoadFault.{LoadFault}
use Rattle.pb_written.specs.declared.fault.LoadFault.TheVariants.{NotJson}
use Rattle.pb_play_reading.specs.Handlers.{handler}
use Rattle.pb_play_reading.specs.NodeLists.{node_list}
use Rattle.pb_play.specs.Nodes.{Written}
use Rattle.pb_play_reading.specs.declared.handlers.Handler.{Handler}
use Rattle.pb_role_files.specs.Meta.{role_meta}
use Rattle.pb_role_files.specs.declared.meta.RoleMeta.{RoleMeta}

-- what was read, or the fault as one of a file
abbrev pub as_file : {A : Type 0} → Reading A LoadFault → Result A LoadFault
as_file (Ok x) = Ok x
as_file (Err e) = Err (as_load_fault e)

-- what a file says whose JSON is read so; bytes that spell none are a fault
abbrev pub of_json : {A : Type 0} → (List ℕ → json.Data → Reading A LoadFault) → Option json.Data → Result A LoadFault
of_json reads None = Err NotJson
of_json reads (Some d) = as_file (reads [] d)

-- what a file's bytes spell, as JSON that is read so
abbrev pub file_of : {A : Type 0} → (List ℕ → json.Data → Reading A LoadFault) → List ℕ → Result A LoadFault
file_of reads bytes = of_json reads (json_in bytes)

-- a list of nodes, of handlers, an object as names and values, and what the role says of itself
unfoldable pub nodes_of_file : List ℕ → Result Written LoadFault
nodes_of_file bytes = file_of node_list bytes

unfoldable pub handlers_of_file : List ℕ → Result (List Handler) LoadFault
handlers_of_file bytes = file_of (each_of handler) bytes

unfoldable pub variables_of_file : List ℕ → Result (List (List ℕ × Datum)) LoadFault
variables_of_file bytes = file_of (each_named_of template_value) bytes

unfoldable pub meta_of_file : List ℕ → Result RoleMeta LoadFault
meta_of_file bytes = file_of role_meta bytes
