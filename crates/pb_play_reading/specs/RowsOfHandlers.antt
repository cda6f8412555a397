-- Worked playbooks with handlers, roles, batches and strategies: what their texts spell, or the first fault in them.
use Rattle.std.specs.Prelude.{◌≡◌, ⊤, pos, true, false, List, [], ◌∷◌, Some, None, Ok, Err, codes, refl}
use Rattle.std.specs.Fmt.{digits}
use Rattle.std.specs.Str.{chars, is_utf8}
use Rattle.std.specs.Str.Lossy.{utf8_valid_len}
use Rattle.serde_json.proofs.OnLiterals.{serde_json_on_literals}
use Rattle.pb_value.specs.Bytes.{json_in}
use Rattle.pb_expr_syntax.specs.Computed.{tree_of, tree_of_tokens}
use Rattle.pb_expr_syntax.specs.Tree.{Name}
use Rattle.pb_template.specs.Computed.{template_of}
use Rattle.pb_value.specs.Datum.{int, list, items_of}
use Rattle.pb_value.specs.FromJson.{value_of}
use Rattle.pb_patterns.specs.Reading.{pattern_of, expressions_of}
use Rattle.pb_patterns.specs.declared.element.Element.{Element}
use Rattle.pb_patterns.specs.declared.element.Mark.TheVariants.{Unmarked}
use Rattle.pb_patterns.specs.declared.element.What.TheVariants.{Term}
use Rattle.pb_written.specs.Conditions.{conditions}
use Rattle.pb_role_entries.specs.RoleEntries.{named_alone, role_entry}
use Rattle.pb_play_reading.specs.Batches.{sizes}
use Rattle.pb_play_reading.specs.Handlers.{handler}
use Rattle.pb_play_reading.specs.Playbooks.{playbook_of, expressions_of_book}
use Rattle.pb_reading.specs.Fields.{field, field_or, others}
use Rattle.pb_play_reading.specs.Plays.{play, expressions_of_play}
use Rattle.pb_play_reading.specs.NodeLists.{nodes}
use Rattle.pb_play.specs.Nodes.{Written, Nothing, Task}
use Rattle.pb_play.specs.Tasks.{plain_task}
use Rattle.pb_play_reading.specs.Tasks.{task, tells_of_task}
use Rattle.pb_written.specs.Templates.{is_template}
use Rattle.pb_written.specs.declared.fault.LoadFault.TheVariants.{WrongShape, NotInProfile, NoModule, BadSerial, BadStrategy}
use Rattle.pb_play.specs.declared.modules.Module.TheVariants.{Setup, Shell}
use Rattle.pb_play.specs.declared.task.Task as declared
use Rattle.pb_strategies.specs.declared.strategy.Strategy.TheVariants.{Linear}

-- what computes a row from its text
unfoldable on_literals : ⊤
unfolding role_entry handler conditions playbook_of expressions_of_book play expressions_of_play nodes task tells_of_task field field_or others pattern_of expressions_of is_template template_of tree_of tree_of_tokens json_in utf8_valid_len is_utf8 chars digits value_of serde_json_on_literals
on_literals = tt

-- a list of tasks alone
abbrev only : List declared.Task → Written
only [] = Nothing
only (t ∷ ts) = Task t (only ts)

-- the elements of the pattern `all`
abbrev all_hosts : List Element
all_hosts = record { text = codes "all"; mark = Unmarked; what = Term (codes "all") None } ∷ []

-- the handlers that a task notifies, a text or a list of texts; a block notifies none
notified : playbook_of (codes "[{\"hosts\":\"all\",\"gather_facts\":false,\"tasks\":[{\"notify\":\"h\",\"setup\":{}},{\"notify\":[\"h\",\"web\"],\"setup\":{}},{\"notify\":[],\"setup\":{}}]}]")
    ≡ Ok (record {
      plays = record {
        name = codes "all";
        hosts = all_hosts;
        vars = [];
        any_errors_fatal = None;
        ignore_errors = false;
        max_fail_percentage = None;
        pre_tasks = Nothing;
        tasks =
            only (record (plain_task (codes "setup") [] Setup) { notify = codes "h" ∷ [] } ∷ record (plain_task (codes "setup") [] Setup) { notify = codes "h" ∷ codes "web" ∷ [] } ∷ plain_task (codes "setup") [] Setup ∷ []);
        post_tasks = Nothing;
        roles = [];
        handlers = [];
        force_handlers = false;
        strategy = Linear;
        serial = sizes [];
      } ∷ [];
    })
unfolding on_literals
notified = refl

number_is_notified : playbook_of (codes "[{\"hosts\":\"all\",\"tasks\":[{\"notify\":5,\"zzz\":1,\"debug\":{}}]}]") ≡ Err (WrongShape (codes "0/tasks/0/notify"))
unfolding on_literals
number_is_notified = refl

null_is_notified : playbook_of (codes "[{\"hosts\":\"all\",\"tasks\":[{\"notify\":[\"h\",null],\"debug\":{}}]}]") ≡ Err (WrongShape (codes "0/tasks/0/notify/1"))
unfolding on_literals
null_is_notified = refl

block_notifies : playbook_of (codes "[{\"hosts\":\"all\",\"tasks\":[{\"block\":[],\"notify\":\"h\"}]}]") ≡ Err (NotInProfile (codes "notify") (codes "0/tasks/0/notify"))
unfolding on_literals
block_notifies = refl

meta_notifies : playbook_of (codes "[{\"hosts\":\"all\",\"tasks\":[{\"meta\":\"noop\",\"notify\":\"h\"}]}]") ≡ Err (NotInProfile (codes "notify") (codes "0/tasks/0/notify"))
unfolding on_literals
meta_notifies = refl

-- a play's roles, its handlers, and whether they are forced
keys_of_roles_and_handlers : playbook_of (codes "[{\"force_handlers\":\"on\",\"gather_facts\":false,\"handlers\":[{\"name\":\"h\",\"setup\":{},\"listen\":\"web\",\"notify\":\"g\",\"register\":\"r\"},{\"shell\":\"a\"}],\"hosts\":\"all\",\"roles\":[\"app\",{\"role\":\"base\",\"x\":1}]}]")
    ≡ Ok (record {
      plays = record {
        name = codes "all";
        hosts = all_hosts;
        vars = [];
        any_errors_fatal = None;
        ignore_errors = false;
        max_fail_percentage = None;
        pre_tasks = Nothing;
        tasks = Nothing;
        post_tasks = Nothing;
        roles = named_alone (codes "app") ∷ record (named_alone (codes "base")) { params = (codes "x", int (pos 1)) ∷ [] } ∷ [];
        handlers =
            record { task = record (plain_task (codes "h") [] Setup) { notify = codes "g" ∷ []; register = Some (codes "r") }; listens = codes "web" ∷ [] } ∷
            record { task = plain_task (codes "shell") [] (Shell (codes "a")); listens = [] } ∷ [];
        force_handlers = true;
        strategy = Linear;
        serial = sizes [];
      } ∷ [];
    })
unfolding on_literals
keys_of_roles_and_handlers = refl

-- all keys of a handler at once, with one module
all_keys_of_handler : playbook_of (codes "[{\"gather_facts\":false,\"handlers\":[{\"any_errors_fatal\":false,\"changed_when\":\"a\",\"delegate_facts\":\"no\",\"delegate_to\":\"b\",\"failed_when\":\"b\",\"ignore_errors\":true,\"listen\":[\"web\",\"db\"],\"loop\":[1],\"loop_control\":{\"loop_var\":\"v\"},\"name\":\"n\",\"notify\":[\"g\"],\"register\":\"r\",\"run_once\":true,\"setup\":{},\"throttle\":0,\"vars\":{\"x\":1},\"when\":\"c\"}],\"hosts\":\"all\"}]")
    ≡ Ok (record {
      plays = record {
        name = codes "all";
        hosts = all_hosts;
        vars = [];
        any_errors_fatal = None;
        ignore_errors = false;
        max_fail_percentage = None;
        pre_tasks = Nothing;
        tasks = Nothing;
        post_tasks = Nothing;
        roles = [];
        handlers =
            record {
              task = record {
                name = codes "n";
                vars = (codes "x", int (pos 1)) ∷ [];
                «module» = Setup;
                conditions = Name (codes "c") ∷ [];
                looped = Some (record { over = list (items_of (int (pos 1) ∷ [])); variable = codes "v" });
                register = Some (codes "r");
                changed_when = Some (Name (codes "a") ∷ []);
                failed_when = Some (Name (codes "b") ∷ []);
                ignore_errors = Some true;
                throttle = Some 0;
                couplings = record { any_errors_fatal = Some false; delegate_facts = Some false; delegate_to = Some (codes "b"); run_once = Some true };
                notify = codes "g" ∷ [];
                retrying = None;
              };
              listens = codes "web" ∷ codes "db" ∷ [];
            } ∷ [];
        force_handlers = false;
        strategy = Linear;
        serial = sizes [];
      } ∷ [];
    })
unfolding on_literals
all_keys_of_handler = refl

no_switch_of_handlers : playbook_of (codes "[{\"force_handlers\":1,\"gather_facts\":1}]") ≡ Err (WrongShape (codes "0/force_handlers"))
unfolding on_literals
no_switch_of_handlers = refl

-- a handler is neither a block nor a meta task: their keys aren't read there, as `listen` isn't on a task
block_as_handler : playbook_of (codes "[{\"handlers\":[{\"setup\":{}},{\"block\":[]}],\"hosts\":3}]") ≡ Err (NotInProfile (codes "block") (codes "0/handlers/1/block"))
unfolding on_literals
block_as_handler = refl

meta_as_handler : playbook_of (codes "[{\"handlers\":[{\"meta\":\"noop\"}],\"hosts\":\"all\"}]") ≡ Err (NotInProfile (codes "meta") (codes "0/handlers/0/meta"))
unfolding on_literals
meta_as_handler = refl

task_listens : playbook_of (codes "[{\"hosts\":\"all\",\"tasks\":[{\"listen\":\"x\",\"setup\":{}}]}]") ≡ Err (NotInProfile (codes "listen") (codes "0/tasks/0/listen"))
unfolding on_literals
task_listens = refl

number_listens : playbook_of (codes "[{\"handlers\":[{\"listen\":[\"x\",1],\"setup\":{}}],\"hosts\":\"all\"}]") ≡ Err (WrongShape (codes "0/handlers/0/listen/1"))
unfolding on_literals
number_listens = refl

no_module_of_handler : playbook_of (codes "[{\"handlers\":[{\"name\":\"h\"}],\"hosts\":\"all\"}]") ≡ Err (NoModule (codes "0/handlers/0"))
unfolding on_literals
no_module_of_handler = refl

text_as_handler : playbook_of (codes "[{\"handlers\":[{\"setup\":{}},\"h\"],\"hosts\":\"all\"}]") ≡ Err (WrongShape (codes "0/handlers/1"))
unfolding on_literals
text_as_handler = refl

no_list_of_handlers : playbook_of (codes "[{\"handlers\":{},\"hosts\":\"all\"}]") ≡ Err (WrongShape (codes "0/handlers"))
unfolding on_literals
no_list_of_handlers = refl

-- handlers stand in front of hosts, and roles behind them, between `pre_tasks` and `tasks`
handlers_before_hosts : playbook_of (codes "[{\"handlers\":1,\"hosts\":[]}]") ≡ Err (WrongShape (codes "0/handlers"))
unfolding on_literals
handlers_before_hosts = refl

no_expression_behind_handlers : expressions_of_book (codes "[{\"handlers\":1,\"hosts\":\"~b\"}]") ≡ []
unfolding on_literals
no_expression_behind_handlers = refl

roles_before_tasks : playbook_of (codes "[{\"hosts\":\"all\",\"roles\":\"app\",\"tasks\":1}]") ≡ Err (WrongShape (codes "0/roles"))
unfolding on_literals
roles_before_tasks = refl

no_role_at_entry : playbook_of (codes "[{\"hosts\":\"all\",\"roles\":[\"app\",{\"x\":1}]}]") ≡ Err (WrongShape (codes "0/roles/1"))
unfolding on_literals
no_role_at_entry = refl

refused_at_entry : playbook_of (codes "[{\"hosts\":\"all\",\"roles\":[{\"become\":true,\"role\":\"app\"}]}]") ≡ Err (NotInProfile (codes "become") (codes "0/roles/0/become"))
unfolding on_literals
refused_at_entry = refl

-- a key in front comes first
fault_in_front : playbook_of (codes "[{\"hosts\":\"all\",\"gather_facts\":false,\"tasks\":[{\"name\":1,\"when\":\"x\"}]}]") ≡ Err (WrongShape (codes "0/tasks/0/name"))
unfolding on_literals
fault_in_front = refl

-- the sizes of batches and the strategy are read between `roles` and `tasks`
serial_behind_roles : playbook_of (codes "[{\"hosts\":\"all\",\"roles\":\"app\",\"serial\":\"x\"}]") ≡ Err (WrongShape (codes "0/roles"))
unfolding on_literals
serial_behind_roles = refl

serial_first : playbook_of (codes "[{\"hosts\":\"all\",\"serial\":\"x\",\"strategy\":\"y\",\"tasks\":1}]") ≡ Err (BadSerial (codes "0/serial"))
unfolding on_literals
serial_first = refl

strategy_before_tasks : playbook_of (codes "[{\"hosts\":\"all\",\"serial\":0,\"strategy\":\"debug\",\"tasks\":1}]") ≡ Err (BadStrategy (codes "0/strategy"))
unfolding on_literals
strategy_before_tasks = refl

-- a throttle stands on tasks, handlers and blocks
play_with_throttle : playbook_of (codes "[{\"hosts\":\"all\",\"throttle\":1,\"vars\":1}]") ≡ Err (NotInProfile (codes "throttle") (codes "0/throttle"))
unfolding on_literals
play_with_throttle = refl

no_throttle_of_task : playbook_of (codes "[{\"hosts\":\"all\",\"tasks\":[{\"setup\":{},\"throttle\":\"1\",\"vars\":1}]}]") ≡ Err (WrongShape (codes "0/tasks/0/throttle"))
unfolding on_literals
no_throttle_of_task = refl

no_throttle_of_handler : playbook_of (codes "[{\"handlers\":[{\"register\":\"r\",\"setup\":{},\"throttle\":-1}],\"hosts\":\"all\"}]") ≡ Err (WrongShape (codes "0/handlers/0/throttle"))
unfolding on_literals
no_throttle_of_handler = refl

-- how the hosts of a task are coupled stands on tasks, handlers and blocks; a play says which failures end it for all
play_with_run_once : playbook_of (codes "[{\"hosts\":\"all\",\"run_once\":true,\"vars\":1}]") ≡ Err (NotInProfile (codes "run_once") (codes "0/run_once"))
unfolding on_literals
play_with_run_once = refl

delegated_play : playbook_of (codes "[{\"delegate_to\":\"a\",\"hosts\":1}]") ≡ Err (NotInProfile (codes "delegate_to") (codes "0/delegate_to"))
unfolding on_literals
delegated_play = refl

no_percentage_of_play : playbook_of (codes "[{\"hosts\":\"all\",\"max_fail_percentage\":101,\"name\":1}]") ≡ Err (WrongShape (codes "0/max_fail_percentage"))
unfolding on_literals
no_percentage_of_play = refl

no_percentage_of_task : playbook_of (codes "[{\"hosts\":\"all\",\"tasks\":[{\"max_fail_percentage\":50,\"setup\":{}}]}]") ≡ Err (NotInProfile (codes "max_fail_percentage") (codes "0/tasks/0/max_fail_percentage"))
unfolding on_literals
no_percentage_of_task = refl

fatal_before_handlers : playbook_of (codes "[{\"any_errors_fatal\":1,\"force_handlers\":1}]") ≡ Err (WrongShape (codes "0/any_errors_fatal"))
unfolding on_literals
fatal_before_handlers = refl
