-- Worked tasks that are tried more than once: what stands at the path `p`, as JSON spells it, and what it is read as.
use Rattle.std.specs.Prelude.{◌≡◌, ⊤, ℕ, true, List, [], ◌∷◌, Option, Some, None, Ok, Err, codes, option_map, refl}
use Rattle.std.specs.Fmt.{digits}
use Rattle.std.specs.Str.{chars, is_utf8}
use Rattle.std.specs.Str.Lossy.{utf8_valid_len}
use Rattle.serde_json.proofs.OnLiterals.{serde_json_on_literals}
use Rattle.pb_value.specs.Bytes.{json_in}
use Rattle.pb_value.specs.FromJson.{value_of}
use Rattle.pb_expr_syntax.specs.Computed.{tree_of, tree_of_tokens}
use Rattle.pb_expr_syntax.specs.Tree.{Name, Truth}
use Rattle.pb_template.specs.Computed.{template_of}
use Rattle.pb_reading.specs.Fields.{field, field_or, others}
use Rattle.pb_reading.specs.Reading.{Reading, WrongShape, Own}
use Rattle.pb_written.specs.Templates.{is_template}
use Rattle.pb_written.specs.Conditions.{conditions}
use Rattle.pb_play_reading.specs.NodeLists.{nodes, node_list}
use Rattle.pb_play.specs.Nodes.{Written, Nothing, Task}
use Rattle.pb_play.specs.Tasks.{plain_task}
use Rattle.pb_play_reading.specs.Tasks.{task, tells_of_task}
use Rattle.pb_written.specs.declared.fault.LoadFault.{LoadFault}
use Rattle.pb_written.specs.declared.fault.LoadFault.TheVariants.{NotInProfile, NoModule, TwoModules, BadExpression}
use Rattle.pb_play.specs.declared.modules.Module.TheVariants.{Setup, Shell}
use Rattle.pb_play.specs.declared.retrying.Retrying.{Retrying}
use Rattle.pb_play.specs.declared.task.Task as declared

-- what computes a row from its text
unfoldable on_literals : ⊤
unfolding nodes task tells_of_task field field_or others conditions is_template template_of tree_of tree_of_tokens json_in utf8_valid_len is_utf8 chars digits value_of serde_json_on_literals
on_literals = tt

-- what JSON is read as that stands at the path `p`
abbrev read : List ℕ → Option (Reading Written LoadFault)
read s = option_map (node_list (codes "p")) (json_in s)

-- the task that runs a text in a shell, so often
abbrev shell : Option Retrying → declared.Task
shell tried = record (plain_task (codes "shell") [] (Shell (codes "a"))) { retrying = tried }

-- all keys of a retry at once
all_of_a_retry : read (codes "[{\"delay\":0,\"retries\":100,\"shell\":\"a\",\"until\":\"x\"}]")
    ≡ Some (Ok (Task (shell (Some (record { until = Some (Name (codes "x") ∷ []); retries = 100; delay = 0 }))) Nothing))
unfolding on_literals
all_of_a_retry = refl

until_alone : read (codes "[{\"shell\":\"a\",\"until\":[true,\"x\"]}]") ≡ Some (Ok (Task (shell (Some (record { until = Some (Truth true ∷ Name (codes "x") ∷ []); retries = 3; delay = 5 }))) Nothing))
unfolding on_literals
until_alone = refl

-- where none is asked, an attempt that hasn't failed is the last one
retries_alone : read (codes "[{\"delay\":3600,\"retries\":0,\"shell\":\"a\"}]") ≡ Some (Ok (Task (shell (Some (record { until = None; retries = 0; delay = 3600 }))) Nothing))
unfolding on_literals
retries_alone = refl

-- a delay alone has no effect, also where nothing can be tried again
delay_alone : read (codes "[{\"delay\":1,\"shell\":\"a\"},{\"delay\":1,\"setup\":{}}]") ≡ Some (Ok (Task (shell None) (Task (plain_task (codes "setup") [] Setup) Nothing)))
unfolding on_literals
delay_alone = refl

-- numbers outside their bounds, and what is no number
one_too_many : read (codes "[{\"retries\":101,\"shell\":\"a\"}]") ≡ Some (Err (WrongShape (codes "p/0/retries")))
unfolding on_literals
one_too_many = refl

one_second_too_long : read (codes "[{\"delay\":3601,\"shell\":\"a\"}]") ≡ Some (Err (WrongShape (codes "p/0/delay")))
unfolding on_literals
one_second_too_long = refl

fewer_than_none : read (codes "[{\"retries\":-1,\"shell\":\"a\"}]") ≡ Some (Err (WrongShape (codes "p/0/retries")))
unfolding on_literals
fewer_than_none = refl

no_number_of_retries : read (codes "[{\"retries\":true,\"shell\":\"a\"}]") ≡ Some (Err (WrongShape (codes "p/0/retries")))
unfolding on_literals
no_number_of_retries = refl

text_as_delay : read (codes "[{\"delay\":\"1\",\"shell\":\"a\"}]") ≡ Some (Err (WrongShape (codes "p/0/delay")))
unfolding on_literals
text_as_delay = refl

fraction_as_delay : read (codes "[{\"delay\":1.5,\"shell\":\"a\"}]") ≡ Some (Err (WrongShape (codes "p/0/delay")))
unfolding on_literals
fraction_as_delay = refl

number_as_until : read (codes "[{\"shell\":\"a\",\"until\":1}]") ≡ Some (Err (WrongShape (codes "p/0/until")))
unfolding on_literals
number_as_until = refl

no_expression_at_until : read (codes "[{\"shell\":\"a\",\"until\":\"1 +\"}]") ≡ Some (Err (Own (BadExpression (codes "p/0/until"))))
unfolding on_literals
no_expression_at_until = refl

-- on any other task they are refused behind all of its keys, and behind a module too few or too many; `until` first
until_elsewhere : read (codes "[{\"retries\":1,\"setup\":{},\"until\":\"x\"}]") ≡ Some (Err (Own (NotInProfile (codes "until") (codes "p/0/until"))))
unfolding on_literals
until_elsewhere = refl

retries_elsewhere : read (codes "[{\"delay\":1,\"retries\":1,\"setup\":{}}]") ≡ Some (Err (Own (NotInProfile (codes "retries") (codes "p/0/retries"))))
unfolding on_literals
retries_elsewhere = refl

keys_first : read (codes "[{\"setup\":{},\"until\":\"x\",\"zzz\":1}]") ≡ Some (Err (Own (NotInProfile (codes "zzz") (codes "p/0/zzz"))))
unfolding on_literals
keys_first = refl

without_a_module : read (codes "[{\"until\":\"x\"}]") ≡ Some (Err (Own (NoModule (codes "p/0"))))
unfolding on_literals
without_a_module = refl

with_two_modules : read (codes "[{\"setup\":{},\"shell\":\"a\",\"until\":\"x\"}]") ≡ Some (Err (Own (TwoModules (codes "p/0"))))
unfolding on_literals
with_two_modules = refl

-- a block and a task that steers the run are tried once
retries_of_block : read (codes "[{\"block\":[],\"retries\":1}]") ≡ Some (Err (Own (NotInProfile (codes "retries") (codes "p/0/retries"))))
unfolding on_literals
retries_of_block = refl

until_of_meta : read (codes "[{\"meta\":\"noop\",\"until\":\"x\"}]") ≡ Some (Err (Own (NotInProfile (codes "until") (codes "p/0/until"))))
unfolding on_literals
until_of_meta = refl

delay_of_meta : read (codes "[{\"delay\":1,\"meta\":\"noop\"}]") ≡ Some (Err (Own (NotInProfile (codes "delay") (codes "p/0/delay"))))
unfolding on_literals
delay_of_meta = refl
