-- Worked lists of nodes: what stands at the path `p`, as JSON spells it, and what it is read as.
use Rattle.std.specs.Prelude.{◌≡◌, ⊤, ℕ, zero, suc, true, false, List, [], ◌∷◌, ◌++◌, Option, Some, None, Ok, Err, codes, option_map, pos, refl}
use Rattle.std.specs.Fmt.{digits}
use Rattle.std.specs.Str.{chars, is_utf8}
use Rattle.std.specs.Str.Lossy.{utf8_valid_len}
use Rattle.serde_json.proofs.OnLiterals.{serde_json_on_literals}
use Rattle.serde_json.specs.Data as json
use Rattle.pb_value.specs.Bytes.{json_in}
use Rattle.pb_value.specs.Datum.{int}
use Rattle.pb_value.specs.FromJson.{value_of}
use Rattle.pb_expr_syntax.specs.Computed.{tree_of, tree_of_tokens}
use Rattle.pb_expr_syntax.specs.Tree.{Name}
use Rattle.pb_template.specs.Computed.{template_of}
use Rattle.pb_reading.specs.Fields.{field, field_or, others}
use Rattle.pb_reading.specs.Reading.{Reading, WrongShape, Own}
use Rattle.pb_written.specs.Templates.{is_template}
use Rattle.pb_written.specs.Conditions.{conditions}
use Rattle.pb_play.specs.Couplings.{uncoupled}
use Rattle.pb_play_reading.specs.NodeLists.{nodes, node_list}
use Rattle.pb_play.specs.Nodes.{Written, Nothing, Task, Block, Flush}
use Rattle.pb_play.specs.Tasks.{plain_task}
use Rattle.pb_play_reading.specs.Tasks.{task, tells_of_task}
use Rattle.pb_written.specs.declared.fault.Limit.TheVariants.{Blocks}
use Rattle.pb_written.specs.declared.fault.LoadFault.{LoadFault}
use Rattle.pb_written.specs.declared.fault.LoadFault.TheVariants.{NotInProfile, NoModule, TooLarge, BadExpression}
use Rattle.pb_play.specs.declared.modules.Meta.TheVariants.{Noop, EndHost}
use Rattle.pb_play.specs.declared.modules.Module.TheVariants.{Meta, Shell}
use Rattle.pb_play.specs.declared.node.BlockKeys.{BlockKeys}
use Rattle.pb_play.specs.declared.task.Task as declared

-- what computes a row from its text
unfoldable on_literals : ⊤
unfolding nodes task tells_of_task field field_or others conditions is_template template_of tree_of tree_of_tokens json_in utf8_valid_len is_utf8 chars digits value_of serde_json_on_literals
on_literals = tt

-- what JSON is read as that stands at the path `p`, where so many blocks may stand inside one another
abbrev read_within : ℕ → List ℕ → Option (Reading Written LoadFault)
read_within left s = option_map (nodes left (codes "p")) (json_in s)

abbrev read : List ℕ → Option (Reading Written LoadFault)
read s = option_map (node_list (codes "p")) (json_in s)

-- the task that runs this text in a shell, and a block that says nothing
abbrev shell : List ℕ → declared.Task
shell s = plain_task (codes "shell") [] (Shell s)

abbrev no_keys : BlockKeys
no_keys = record { conditions = []; vars = []; ignore_errors = None; throttle = None; couplings = uncoupled }

-- all keys of a block at once, in the order of their bytes; a task stands behind it
all_of_block : read (codes "[{\"always\":[{\"shell\":\"c\"}],\"any_errors_fatal\":\"yes\",\"block\":[{\"shell\":\"a\"}],\"delegate_facts\":true,\"delegate_to\":\"{{ h }}\",\"ignore_errors\":true,\"name\":\"n\",\"rescue\":[{\"shell\":\"b\"}],\"run_once\":false,\"throttle\":3,\"vars\":{\"x\":1},\"when\":\"y\"},{\"shell\":\"d\"}]")
    ≡ Some (Ok (
    Block
    (record {
      conditions = Name (codes "y") ∷ [];
      vars = (codes "x", int (pos 1)) ∷ [];
      ignore_errors = Some true;
      throttle = Some 3;
      couplings = record { any_errors_fatal = Some true; delegate_facts = Some true; delegate_to = Some (codes "{{ h }}"); run_once = Some false };
    })
    (Task (shell (codes "a")) Nothing) (Task (shell (codes "b")) Nothing) (Task (shell (codes "c")) Nothing) (Task (shell (codes "d")) Nothing)
    ))
unfolding on_literals
all_of_block = refl

nothing_in_block : read (codes "[{\"block\":[]}]") ≡ Some (Ok (Block no_keys Nothing Nothing Nothing Nothing))
unfolding on_literals
nothing_in_block = refl

ignores_not : read (codes "[{\"block\":[],\"ignore_errors\":\"no\"}]") ≡ Some (Ok (Block (record { conditions = []; vars = []; ignore_errors = Some false; throttle = None; couplings = uncoupled }) Nothing Nothing Nothing Nothing))
unfolding on_literals
ignores_not = refl

-- keys without effect aren't read as values
without_effect_on_blocks : read (codes "[{\"block\":[],\"connection\":\"local\",\"gather_subset\":1.5,\"no_log\":\"Off\",\"remote_user\":1.5,\"tags\":[1.5]}]") ≡ Some (Ok (Block no_keys Nothing Nothing Nothing Nothing))
unfolding on_literals
without_effect_on_blocks = refl

no_log_of_block : read (codes "[{\"block\":[],\"no_log\":true}]") ≡ Some (Err (Own (NotInProfile (codes "no_log") (codes "p/0/no_log"))))
unfolding on_literals
no_log_of_block = refl

never_a_block : read (codes "[{\"block\":[],\"tags\":\"never\"}]") ≡ Some (Err (Own (NotInProfile (codes "never") (codes "p/0/tags"))))
unfolding on_literals
never_a_block = refl

-- a list in a block has its own path; keys are looked at in the order of their bytes
no_node_in_body : read (codes "[{\"block\":[{\"shell\":\"a\"},1],\"rescue\":1}]") ≡ Some (Err (WrongShape (codes "p/0/block/1")))
unfolding on_literals
no_node_in_body = refl

no_node_in_rescue : read (codes "[{\"block\":[],\"rescue\":[null]}]") ≡ Some (Err (WrongShape (codes "p/0/rescue/0")))
unfolding on_literals
no_node_in_rescue = refl

no_node_in_always : read (codes "[{\"shell\":\"a\"},{\"block\":1,\"always\":[{\"shell\":1}]}]") ≡ Some (Err (WrongShape (codes "p/1/always/0/shell")))
unfolding on_literals
no_node_in_always = refl

no_list_in_block : read (codes "[{\"block\":{\"shell\":\"a\"}}]") ≡ Some (Err (WrongShape (codes "p/0/block")))
unfolding on_literals
no_list_in_block = refl

no_name_of_block : read (codes "[{\"block\":[],\"name\":1}]") ≡ Some (Err (WrongShape (codes "p/0/name")))
unfolding on_literals
no_name_of_block = refl

no_switch_of_block : read (codes "[{\"block\":[],\"ignore_errors\":1}]") ≡ Some (Err (WrongShape (codes "p/0/ignore_errors")))
unfolding on_literals
no_switch_of_block = refl

no_throttle_of_block : read (codes "[{\"block\":[],\"throttle\":1.5}]") ≡ Some (Err (WrongShape (codes "p/0/throttle")))
unfolding on_literals
no_throttle_of_block = refl

throttle_of_meta : read (codes "[{\"meta\":\"noop\",\"throttle\":1}]") ≡ Some (Err (Own (NotInProfile (codes "throttle") (codes "p/0/throttle"))))
unfolding on_literals
throttle_of_meta = refl

-- which host runs a task is said by a text that is a template, and the other keys that couple hosts are switches
no_delegate_of_task : read (codes "[{\"delegate_to\":1,\"run_once\":1,\"shell\":\"a\"}]") ≡ Some (Err (WrongShape (codes "p/0/delegate_to")))
unfolding on_literals
no_delegate_of_task = refl

no_template_of_delegate : read (codes "[{\"block\":[],\"delegate_to\":\"{{ 1 + }}\",\"run_once\":1}]") ≡ Some (Err (Own (BadExpression (codes "p/0/delegate_to"))))
unfolding on_literals
no_template_of_delegate = refl

no_switch_of_run_once : read (codes "[{\"run_once\":2,\"shell\":\"a\"}]") ≡ Some (Err (WrongShape (codes "p/0/run_once")))
unfolding on_literals
no_switch_of_run_once = refl

no_switch_of_fatal_errors : read (codes "[{\"any_errors_fatal\":\"\",\"block\":1}]") ≡ Some (Err (WrongShape (codes "p/0/any_errors_fatal")))
unfolding on_literals
no_switch_of_fatal_errors = refl

no_switch_of_facts : read (codes "[{\"block\":[],\"delegate_facts\":[]}]") ≡ Some (Err (WrongShape (codes "p/0/delegate_facts")))
unfolding on_literals
no_switch_of_facts = refl

-- a task that steers the run has none of them of its own
meta_runs_once : read (codes "[{\"meta\":\"noop\",\"run_once\":true}]") ≡ Some (Err (Own (NotInProfile (codes "run_once") (codes "p/0/run_once"))))
unfolding on_literals
meta_runs_once = refl

delegated_meta : read (codes "[{\"delegate_to\":\"b\",\"meta\":\"noop\"}]") ≡ Some (Err (Own (NotInProfile (codes "delegate_to") (codes "p/0/delegate_to"))))
unfolding on_literals
delegated_meta = refl

no_variables_of_block : read (codes "[{\"block\":[],\"vars\":[]}]") ≡ Some (Err (WrongShape (codes "p/0/vars")))
unfolding on_literals
no_variables_of_block = refl

no_condition_of_block : read (codes "[{\"block\":[],\"when\":[[]]}]") ≡ Some (Err (WrongShape (codes "p/0/when/0")))
unfolding on_literals
no_condition_of_block = refl

-- any other key of a block is refused by its name
module_in_block : read (codes "[{\"block\":[],\"shell\":\"a\"}]") ≡ Some (Err (Own (NotInProfile (codes "shell") (codes "p/0/shell"))))
unfolding on_literals
module_in_block = refl

meta_in_block : read (codes "[{\"block\":[],\"meta\":\"noop\"}]") ≡ Some (Err (Own (NotInProfile (codes "meta") (codes "p/0/meta"))))
unfolding on_literals
meta_in_block = refl

register_of_block : read (codes "[{\"block\":[],\"register\":\"x\"}]") ≡ Some (Err (Own (NotInProfile (codes "register") (codes "p/0/register"))))
unfolding on_literals
register_of_block = refl

-- only a module's name may have the prefix, and a rescue without a block is none
block_with_prefix : read (codes "[{\"ansible.builtin.block\":[]}]") ≡ Some (Err (Own (NotInProfile (codes "ansible.builtin.block") (codes "p/0/ansible.builtin.block"))))
unfolding on_literals
block_with_prefix = refl

rescue_alone : read (codes "[{\"shell\":\"a\",\"rescue\":[]}]") ≡ Some (Err (Own (NotInProfile (codes "rescue") (codes "p/0/rescue"))))
unfolding on_literals
rescue_alone = refl

-- blocks stand inside one another, in each of their lists
blocks_in_each : read_within 2 (codes "[{\"always\":[{\"block\":[]}],\"block\":[{\"block\":[]}],\"rescue\":[{\"block\":[]}]}]")
    ≡ Some (Ok (
    Block no_keys (Block no_keys Nothing Nothing Nothing Nothing) (Block no_keys Nothing Nothing Nothing Nothing) (Block no_keys Nothing Nothing Nothing Nothing) Nothing
    ))
unfolding on_literals
blocks_in_each = refl

-- one too many is reported where it is met, before any fault in it, and behind the faults in front of it
one_too_many : read_within 1 (codes "[{\"block\":[{\"block\":1,\"always\":1,\"zzz\":1}]}]") ≡ Some (Err (Own (TooLarge Blocks (codes "p/0/block/0"))))
unfolding on_literals
one_too_many = refl

too_many_in_rescue : read_within 1 (codes "[{\"block\":[],\"rescue\":[{\"block\":[]}]}]") ≡ Some (Err (Own (TooLarge Blocks (codes "p/0/rescue/0"))))
unfolding on_literals
too_many_in_rescue = refl

too_many_in_always : read_within 1 (codes "[{\"always\":[{\"block\":[]}],\"block\":1}]") ≡ Some (Err (Own (TooLarge Blocks (codes "p/0/always/0"))))
unfolding on_literals
too_many_in_always = refl

fault_before : read_within 1 (codes "[{\"always\":1,\"block\":[{\"block\":[]}]}]") ≡ Some (Err (WrongShape (codes "p/0/always")))
unfolding on_literals
fault_before = refl

-- one behind another they are as many as there are
one_behind_another : read_within 1 (codes "[{\"block\":[]},{\"block\":[]}]") ≡ Some (Ok (Block no_keys Nothing Nothing Nothing (Block no_keys Nothing Nothing Nothing Nothing)))
unfolding on_literals
one_behind_another = refl

-- so many blocks inside one another, as JSON and as they are read
abbrev nested : ℕ → json.Data
nested zero = json.array json.no_items
nested (suc n) = json.array (json.item (json.object (json.member (codes "block") (nested n) json.no_members)) json.no_items)

abbrev blocks : ℕ → Written
blocks zero = Nothing
blocks (suc n) = Block no_keys (blocks n) Nothing Nothing Nothing

thirty_two : node_list [] (nested 32) ≡ Ok (blocks 32)
unfolding on_literals
thirty_two = refl

-- the path of a node that stands inside of so many blocks more
abbrev inside : ℕ → List ℕ → List ℕ
inside zero path = path
inside (suc n) path = inside n (path ++ codes "/block/0")

thirty_three : node_list [] (nested 33) ≡ Err (Own (TooLarge Blocks (inside 32 (codes "0"))))
unfolding on_literals
thirty_three = refl

-- tasks that steer the run, each with its keys
all_of_meta : read (codes "[{\"meta\":\"noop\"},{\"ansible.builtin.meta\":\"end_host\",\"name\":\"n\",\"tags\":\"t\",\"when\":\"x\"},{\"meta\":\"flush_handlers\",\"name\":\"f\"},{\"meta\":\"end_host\"}]")
    ≡ Some (Ok (
    Task (plain_task (codes "meta") [] (Meta Noop))
    (Task (record (plain_task (codes "n") [] (Meta EndHost)) { conditions = Name (codes "x") ∷ [] }) (Flush (Task (plain_task (codes "meta") [] (Meta EndHost)) Nothing)))
    ))
unfolding on_literals
all_of_meta = refl

-- any other value isn't read, at its key
other_meta : read (codes "[{\"meta\":\"end_play\",\"name\":1}]") ≡ Some (Err (Own (NotInProfile (codes "meta") (codes "p/0/meta"))))
unfolding on_literals
other_meta = refl

meta_no_text : read (codes "[{\"ansible.builtin.meta\":null,\"become\":1}]") ≡ Some (Err (Own (NotInProfile (codes "meta") (codes "p/0/ansible.builtin.meta"))))
unfolding on_literals
meta_no_text = refl

key_before_meta : read (codes "[{\"become\":1,\"meta\":\"end_play\"}]") ≡ Some (Err (Own (NotInProfile (codes "become") (codes "p/0/become"))))
unfolding on_literals
key_before_meta = refl

-- no condition is asked where handlers run: `when` is refused at its place among the keys, whatever stands there
condition_of_flush : read (codes "[{\"meta\":\"flush_handlers\",\"when\":true}]") ≡ Some (Err (Own (NotInProfile (codes "when") (codes "p/0/when"))))
unfolding on_literals
condition_of_flush = refl

no_condition_of_flush : read (codes "[{\"meta\":\"flush_handlers\",\"when\":1}]") ≡ Some (Err (Own (NotInProfile (codes "when") (codes "p/0/when"))))
unfolding on_literals
no_condition_of_flush = refl

no_expression_of_flush : read (codes "[{\"meta\":\"flush_handlers\",\"when\":\"1 +\"}]") ≡ Some (Err (Own (NotInProfile (codes "when") (codes "p/0/when"))))
unfolding on_literals
no_expression_of_flush = refl

key_behind_condition : read (codes "[{\"meta\":\"flush_handlers\",\"when\":true,\"zzz\":1}]") ≡ Some (Err (Own (NotInProfile (codes "when") (codes "p/0/when"))))
unfolding on_literals
key_behind_condition = refl

key_before_condition : read (codes "[{\"meta\":\"flush_handlers\",\"vars\":{},\"when\":true}]") ≡ Some (Err (Own (NotInProfile (codes "vars") (codes "p/0/vars"))))
unfolding on_literals
key_before_condition = refl

key_before_flush : read (codes "[{\"a\":1,\"meta\":\"flush_handlers\",\"when\":true}]") ≡ Some (Err (Own (NotInProfile (codes "a") (codes "p/0/a"))))
unfolding on_literals
key_before_flush = refl

-- where another task is meant, it is read
no_condition_of_meta : read (codes "[{\"meta\":\"noop\",\"when\":1,\"zzz\":1}]") ≡ Some (Err (WrongShape (codes "p/0/when")))
unfolding on_literals
no_condition_of_meta = refl

no_expression_of_meta : read (codes "[{\"meta\":\"end_host\",\"when\":\"1 +\"}]") ≡ Some (Err (Own (BadExpression (codes "p/0/when"))))
unfolding on_literals
no_expression_of_meta = refl

no_name_of_meta : read (codes "[{\"meta\":\"noop\",\"name\":1}]") ≡ Some (Err (WrongShape (codes "p/0/name")))
unfolding on_literals
no_name_of_meta = refl

-- any other key is refused by its name, a module's too, and one of the two forms of `meta` beside the other
meta_and_module : read (codes "[{\"meta\":\"noop\",\"shell\":\"a\"}]") ≡ Some (Err (Own (NotInProfile (codes "shell") (codes "p/0/shell"))))
unfolding on_literals
meta_and_module = refl

loop_of_meta : read (codes "[{\"loop\":[],\"meta\":\"noop\"}]") ≡ Some (Err (Own (NotInProfile (codes "loop") (codes "p/0/loop"))))
unfolding on_literals
loop_of_meta = refl

variables_of_meta : read (codes "[{\"meta\":\"noop\",\"vars\":{}}]") ≡ Some (Err (Own (NotInProfile (codes "vars") (codes "p/0/vars"))))
unfolding on_literals
variables_of_meta = refl

both_forms : read (codes "[{\"ansible.builtin.meta\":\"noop\",\"meta\":\"noop\",\"name\":1}]") ≡ Some (Err (Own (NotInProfile (codes "meta") (codes "p/0/meta"))))
unfolding on_literals
both_forms = refl

-- a node is an object, and one without such a key a task
no_object : read (codes "[[]]") ≡ Some (Err (WrongShape (codes "p/0")))
unfolding on_literals
no_object = refl

no_list : read (codes "{}") ≡ Some (Err (WrongShape (codes "p")))
unfolding on_literals
no_list = refl

no_node : read (codes "[{}]") ≡ Some (Err (Own (NoModule (codes "p/0"))))
unfolding on_literals
no_node = refl
