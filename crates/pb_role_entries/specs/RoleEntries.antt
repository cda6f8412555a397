-- Role entries. See Ansible's documentation, "Roles", Using roles at the play level, and Using role dependencies.
use Rattle.std.specs.Prelude.{ℕ, List, [], Ok, Option, Some, None, codes, option_map, unwrap_or}
use Rattle.serde_json.specs.Data as json
use Rattle.pb_value.specs.Datum.{Datum, dict, members_of}
use Rattle.pb_expr_syntax.specs.Tree.{Tree}
use Rattle.pb_reading.specs.Fields.{◌>>=◌, Part, object, others, rule}
use Rattle.pb_reading.specs.Reading.{Reading, wrong, each_named_of}
use Rattle.pb_reading.specs.Simple.{text}
use Rattle.pb_written.specs.Values.{template_value}
use Rattle.pb_written.specs.declared.fault.LoadFault.{LoadFault}
use Rattle.pb_role_entries.specs.Keys.{one_more_param, key, tags, asked}
use Rattle.pb_role_entries.specs.declared.entry.RoleEntry.{RoleEntry}
use Rattle.pb_role_entries.specs.declared.keys.Asked.{Asked}
use Rattle.pb_role_entries.specs.declared.keys.Params.{Params}
use Rattle.pb_role_entries.specs.declared.reading.Given.{Given}

-- the role stands at one of two keys
abbrev pub one_name : List ℕ → Option (List ℕ) → Option (List ℕ) → Reading (List ℕ) LoadFault
one_name path (Some name) None = Ok name
one_name path None (Some role) = Ok role
one_name path (Some name) (Some role) = wrong path
one_name path None None = wrong path

-- the conditions of an entry, which has none where it has no `when`
abbrev pub conditions_in : Option Asked → List Tree
conditions_in None = []
conditions_in (Some asked) = asked.conditions

-- what is written at `when`, if the entry has it
abbrev pub written_in : Option Asked → Option Datum
written_in None = None
written_in (Some asked) = Some asked.as_written

-- an entry of these parts; where it says nothing it has no variables, no conditions and nothing that is written there
abbrev pub entry_of : List ℕ → Option Datum → Option (List (List ℕ × Datum)) → Option Asked → List (List ℕ × Datum) → RoleEntry
entry_of name tags vars asked params =
    record {
      name = name;
      vars = unwrap_or vars [];
      conditions = conditions_in asked;
      params = params;
      as_written = record { vars = option_map (λ ms. dict (members_of ms)) vars; when = written_in asked; tags = tags };
    }

-- what it gives its role beside parameters
abbrev pub given : Part Params LoadFault Given
given = do
  tags ← key (codes "tags") tags
  vars ← key (codes "vars") (each_named_of template_value)
  asked ← key (codes "when") asked
  rule (Ok (record { tags = tags; vars = vars; asked = asked }))

-- an entry behind the keys for its role; that one of the two has to be there is reported behind all keys
abbrev pub rest_of_entry : List ℕ → Option (List ℕ) → Option (List ℕ) → Part Params LoadFault RoleEntry
rest_of_entry path name role = do
  given ← given
  told ← others one_more_param
  named ← rule (one_name path name role)
  rule (Ok (entry_of named given.tags given.vars given.asked told.params))

-- an entry that is an object: its role stands at `name` or at `role`
abbrev pub entry_in : List ℕ → json.Data → Reading RoleEntry LoadFault
entry_in path = object (record { params = [] }) (do
  name ← key (codes "name") text
  role ← key (codes "role") text
  rest_of_entry path name role) path

-- a text names a role, and gives it nothing
abbrev pub named_alone : List ℕ → RoleEntry
named_alone name = entry_of name None None None []

-- a role entry
unfoldable pub role_entry : List ℕ → json.Data → Reading RoleEntry LoadFault
role_entry path (json.string s) = Ok (named_alone s)
role_entry path (json.object ms) = entry_in path (json.object ms)
role_entry path d = wrong path
