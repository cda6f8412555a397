-- Worked files of roles: what their texts spell, or the first fault in them.
use Rattle.std.specs.Prelude.{◌≡◌, ⊤, true, false, [], ◌∷◌, Ok, Err, codes, pos, refl}
use Rattle.std.specs.Fmt.{digits}
use Rattle.std.specs.Str.{chars, is_utf8}
use Rattle.std.specs.Str.Lossy.{utf8_valid_len}
use Rattle.serde_json.proofs.OnLiterals.{serde_json_on_literals}
use Rattle.pb_value.specs.Bytes.{json_in}
use Rattle.pb_value.specs.Datum.{int, text}
use Rattle.pb_value.specs.FromJson.{value_of}
use Rattle.pb_expr_syntax.specs.Computed.{tree_of, tree_of_tokens}
use Rattle.pb_template.specs.Computed.{template_of}
use Rattle.pb_reading.specs.Fields.{field, field_or, others}
use Rattle.pb_written.specs.Conditions.{conditions}
use Rattle.pb_written.specs.Templates.{is_template}
use Rattle.pb_written.specs.declared.fault.LoadFault.TheVariants.{NotJson, WrongShape, NotInProfile, BadExpression}
use Rattle.pb_role_entries.specs.RoleEntries.{named_alone, role_entry}
use Rattle.pb_play_reading.specs.Handlers.{handler}
use Rattle.pb_play_reading.specs.NodeLists.{nodes}
use Rattle.pb_play.specs.Nodes.{Nothing, Task, Flush}
use Rattle.pb_play.specs.Tasks.{plain_task}
use Rattle.pb_play_reading.specs.Tasks.{task, tells_of_task}
use Rattle.pb_play.specs.declared.modules.Module.TheVariants.{Setup}
use Rattle.pb_role_files.specs.RoleFiles.{nodes_of_file, handlers_of_file, variables_of_file, meta_of_file}

-- what computes a row from its text
unfoldable on_literals : ⊤
unfolding nodes_of_file handlers_of_file variables_of_file meta_of_file nodes handler role_entry conditions task tells_of_task field field_or others is_template template_of tree_of tree_of_tokens json_in utf8_valid_len is_utf8 chars digits value_of serde_json_on_literals
on_literals = tt

-- tasks: a list of nodes; the path of a fault begins in the file
tasks : nodes_of_file (codes "[{\"setup\":{}},{\"meta\":\"flush_handlers\"}]") ≡ Ok (Task (plain_task (codes "setup") [] Setup) (Flush Nothing))
unfolding on_literals
tasks = refl

no_tasks : nodes_of_file (codes "[]") ≡ Ok Nothing
unfolding on_literals
no_tasks = refl

tasks_no_list : nodes_of_file (codes "{}") ≡ Err (WrongShape [])
unfolding on_literals
tasks_no_list = refl

fault_in_block : nodes_of_file (codes "[{\"setup\":{}},{\"block\":[{\"setup\":5}]}]") ≡ Err (WrongShape (codes "1/block/0/setup"))
unfolding on_literals
fault_in_block = refl

cut_off : nodes_of_file (codes "[") ≡ Err NotJson
unfolding on_literals
cut_off = refl

-- handlers: a list of handlers
handlers : handlers_of_file (codes "[{\"name\":\"h\",\"listen\":[\"web\"],\"setup\":{}}]") ≡ Ok (record { task = plain_task (codes "h") [] Setup; listens = codes "web" ∷ [] } ∷ [])
unfolding on_literals
handlers = refl

block_as_handler : handlers_of_file (codes "[{\"setup\":{}},{\"block\":[]}]") ≡ Err (NotInProfile (codes "block") (codes "1/block"))
unfolding on_literals
block_as_handler = refl

handlers_no_list : handlers_of_file (codes "\"h\"") ≡ Err (WrongShape [])
unfolding on_literals
handlers_no_list = refl

-- variables: an object of names and values; a name may be any text, and texts are templates
variables : variables_of_file (codes "{\"b-c\":1,\"a\":\"{{ x }}\"}") ≡ Ok ((codes "a", text (codes "{{ x }}")) ∷ (codes "b-c", int (pos 1)) ∷ [])
unfolding on_literals
variables = refl

fraction_as_variable : variables_of_file (codes "{\"x\":[1.5]}") ≡ Err (WrongShape (codes "x"))
unfolding on_literals
fraction_as_variable = refl

no_template_in_variable : variables_of_file (codes "{\"x\":[\"{{ }}\"]}") ≡ Err (BadExpression (codes "x"))
unfolding on_literals
no_template_in_variable = refl

variables_no_object : variables_of_file (codes "[]") ≡ Err (WrongShape [])
unfolding on_literals
variables_no_object = refl

-- what a role says of itself
all_of_meta : meta_of_file (codes "{\"allow_duplicates\":\"yes\",\"dependencies\":[\"base\",{\"role\":\"app\",\"x\":1}],\"galaxy_info\":{\"author\":1.5}}")
    ≡ Ok (record { dependencies = named_alone (codes "base") ∷ record (named_alone (codes "app")) { params = (codes "x", int (pos 1)) ∷ [] } ∷ []; allow_duplicates = true })
unfolding on_literals
all_of_meta = refl

nothing_said : meta_of_file (codes "{}") ≡ Ok (record { dependencies = []; allow_duplicates = false })
unfolding on_literals
nothing_said = refl

no_switch : meta_of_file (codes "{\"allow_duplicates\":1,\"dependencies\":1}") ≡ Err (WrongShape (codes "allow_duplicates"))
unfolding on_literals
no_switch = refl

no_dependencies : meta_of_file (codes "{\"dependencies\":\"base\"}") ≡ Err (WrongShape (codes "dependencies"))
unfolding on_literals
no_dependencies = refl

no_role : meta_of_file (codes "{\"dependencies\":[{\"x\":1}]}") ≡ Err (WrongShape (codes "dependencies/0"))
unfolding on_literals
no_role = refl

other_key : meta_of_file (codes "{\"author\":1,\"dependencies\":1}") ≡ Err (NotInProfile (codes "author") (codes "author"))
unfolding on_literals
other_key = refl

meta_no_object : meta_of_file (codes "[]") ≡ Err (WrongShape [])
unfolding on_literals
meta_no_object = refl
