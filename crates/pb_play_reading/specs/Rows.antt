-- Worked playbooks: what their texts spell, or the first fault in them.
use Rattle.std.specs.Prelude.{◌≡◌, ⊤, pos, true, false, List, [], ◌∷◌, ◌++◌, Some, None, Ok, Err, codes, refl}
use Rattle.std.specs.Fmt.{digits}
use Rattle.std.specs.Str.{chars, is_utf8}
use Rattle.std.specs.Str.Lossy.{utf8_valid_len}
use Rattle.serde_json.proofs.OnLiterals.{serde_json_on_literals}
use Rattle.pb_batches.specs.declared.serial.Entry.TheVariants.{Number, Percent}
use Rattle.pb_value.specs.Bytes.{json_in}
use Rattle.pb_expr_syntax.specs.Computed.{tree_of, tree_of_tokens}
use Rattle.pb_expr_syntax.specs.Tree.{Name, Truth}
use Rattle.pb_template.specs.Computed.{template_of}
use Rattle.pb_value.specs.Datum.{null, int, text, list, items_of}
use Rattle.pb_value.specs.FromJson.{value_of}
use Rattle.pb_patterns.specs.Reading.{pattern_of, expressions_of}
use Rattle.pb_patterns.specs.declared.element.Element.{Element}
use Rattle.pb_patterns.specs.declared.element.Mark.TheVariants.{Unmarked, Met, Excluded}
use Rattle.pb_patterns.specs.declared.element.Subscript.TheVariants.{At}
use Rattle.pb_patterns.specs.declared.element.What.TheVariants.{Term, Regex}
use Rattle.pb_written.specs.Conditions.{conditions}
use Rattle.pb_role_entries.specs.RoleEntries.{named_alone, role_entry}
use Rattle.pb_play_reading.specs.Batches.{sizes}
use Rattle.pb_play_reading.specs.Handlers.{handler}
use Rattle.pb_play_reading.specs.Playbooks.{playbook_of, expressions_of_book}
use Rattle.pb_reading.specs.Fields.{field, field_or, others}
use Rattle.pb_play_reading.specs.Plays.{play, expressions_of_play}
use Rattle.pb_play_reading.specs.Refusals.{met_at}
use Rattle.pb_play_reading.specs.NodeLists.{nodes}
use Rattle.pb_play.specs.Nodes.{Written, Nothing, Task}
use Rattle.pb_play.specs.Tasks.{plain_task}
use Rattle.pb_play_reading.specs.Tasks.{task, tells_of_task}
use Rattle.pb_written.specs.Templates.{is_template}
use Rattle.pb_written.specs.declared.fault.LoadFault.TheVariants.{NotJson, WrongShape, NotInProfile, NoModule, TwoModules, BadExpression, BadPattern}
use Rattle.pb_play.specs.declared.modules.Module.TheVariants.{Assert, Debug, Fail, SetFact, Setup, Shell}
use Rattle.pb_play.specs.declared.task.Task as declared
use Rattle.pb_strategies.specs.declared.strategy.Strategy.TheVariants.{Linear, Free}

-- what computes a row from its text
unfoldable pub on_literals : ⊤
unfolding role_entry handler conditions playbook_of expressions_of_book play expressions_of_play nodes task tells_of_task field field_or others pattern_of expressions_of is_template template_of tree_of tree_of_tokens json_in utf8_valid_len is_utf8 chars digits value_of serde_json_on_literals
on_literals = tt

-- a list of tasks alone
abbrev pub only : List declared.Task → Written
only [] = Nothing
only (t ∷ ts) = Task t (only ts)

-- the elements of the pattern `all`
abbrev pub all_hosts : List Element
all_hosts = record { text = codes "all"; mark = Unmarked; what = Term (codes "all") None } ∷ []

hello : playbook_of (codes "[{\"hosts\":\"all\",\"gather_facts\":false,\"tasks\":[{\"name\":\"hi\",\"debug\":{\"msg\":\"hello\"}}]}]")
    ≡ Ok (record { plays = record { name = codes "all"; hosts = all_hosts; vars = []; any_errors_fatal = None; ignore_errors = false; max_fail_percentage = None; pre_tasks = Nothing; tasks = only (plain_task (codes "hi") [] (Debug (text (codes "hello"))) ∷ []); post_tasks = Nothing; roles = []; handlers = []; force_handlers = false; strategy = Linear; serial = sizes [] } ∷ [] })
unfolding on_literals
hello = refl

-- a task without a name has its module's, without the prefix; `debug` shows `Hello world!` where nothing is said
nothing_said : playbook_of (codes "[{\"hosts\":\"all\",\"name\":\"p\",\"gather_facts\":\"No\",\"tasks\":[{\"ansible.builtin.debug\":{}}]}]")
    ≡ Ok (record { plays = record { name = codes "p"; hosts = all_hosts; vars = []; any_errors_fatal = None; ignore_errors = false; max_fail_percentage = None; pre_tasks = Nothing; tasks = only (plain_task (codes "debug") [] (Debug (text (codes "Hello world!"))) ∷ []); post_tasks = Nothing; roles = []; handlers = []; force_handlers = false; strategy = Linear; serial = sizes [] } ∷ [] })
unfolding on_literals
nothing_said = refl

-- a file without its last byte
cut_off : playbook_of (codes "[{\"hosts\":\"all\",\"gather_facts\":false,\"tasks\":[{\"name\":\"hi\",\"debug\":{\"msg\":\"hello\"}}]}") ≡ Err NotJson
unfolding on_literals
cut_off = refl

-- keys are looked at in byte order, wherever they stand
unknown_key : playbook_of (codes "[{\"hosts\":3,\"gather_facts\":true,\"become\":true}]") ≡ Err (NotInProfile (codes "become") (codes "0/become"))
unfolding on_literals
unknown_key = refl

not_whole : playbook_of (codes "[{\"hosts\":\"all\",\"gather_facts\":false,\"tasks\":[{\"debug\":{\"msg\":[1.5]}}]}]") ≡ Err (WrongShape (codes "0/tasks/0/debug/msg"))
unfolding on_literals
not_whole = refl

no_arguments : playbook_of (codes "[{\"hosts\":\"all\",\"gather_facts\":false,\"tasks\":[{\"debug\":null}]}]") ≡ Err (WrongShape (codes "0/tasks/0/debug"))
unfolding on_literals
no_arguments = refl

-- a template is kept as it is written
template : playbook_of (codes "[{\"hosts\":\"all\",\"gather_facts\":false,\"tasks\":[{\"debug\":{\"msg\":\"{{ x }}\"}}]}]")
    ≡ Ok (record { plays = record { name = codes "all"; hosts = all_hosts; vars = []; any_errors_fatal = None; ignore_errors = false; max_fail_percentage = None; pre_tasks = Nothing; tasks = only (plain_task (codes "debug") [] (Debug (text (codes "{{ x }}"))) ∷ []); post_tasks = Nothing; roles = []; handlers = []; force_handlers = false; strategy = Linear; serial = sizes [] } ∷ [] })
unfolding on_literals
template = refl

-- there is no such operator
no_template : playbook_of (codes "[{\"hosts\":\"all\",\"gather_facts\":false,\"tasks\":[{\"debug\":{\"msg\":\"{{ 2 * 3 }}\"}}]}]") ≡ Err (BadExpression (codes "0/tasks/0/debug/msg"))
unfolding on_literals
no_template = refl

no_module : playbook_of (codes "[{\"hosts\":\"all\",\"gather_facts\":false,\"tasks\":[{}]}]") ≡ Err (NoModule (codes "0/tasks/0"))
unfolding on_literals
no_module = refl

two_modules : playbook_of (codes "[{\"hosts\":\"all\",\"gather_facts\":false,\"tasks\":[{\"debug\":{},\"ansible.builtin.debug\":{}}]}]") ≡ Err (TwoModules (codes "0/tasks/0"))
unfolding on_literals
two_modules = refl

-- a missing key is reported after the keys that are there
no_hosts : playbook_of (codes "[{}]") ≡ Err (WrongShape (codes "0"))
unfolding on_literals
no_hosts = refl

-- facts are gathered where that isn't switched off: a play's first task does it, in front of its pre_tasks
gathering : playbook_of (codes "[{\"hosts\":\"all\"}]")
    ≡ Ok (record { plays = record { name = codes "all"; hosts = all_hosts; vars = []; any_errors_fatal = None; ignore_errors = false; max_fail_percentage = None; pre_tasks = only (plain_task (codes "Gathering Facts") [] Setup ∷ []); tasks = Nothing; post_tasks = Nothing; roles = []; handlers = []; force_handlers = false; strategy = Linear; serial = sizes [] } ∷ [] })
unfolding on_literals
gathering = refl

-- whether failures are ignored the play says, and each task where it has something to say
gathering_first : playbook_of (codes "[{\"hosts\":\"all\",\"gather_facts\":\"Yes\",\"ignore_errors\":true,\"pre_tasks\":[{\"debug\":{}}]}]")
    ≡ Ok (record {
      plays = record {
        name = codes "all";
        hosts = all_hosts;
        vars = [];
        any_errors_fatal = None;
        ignore_errors = true;
        max_fail_percentage = None;
        pre_tasks = only (plain_task (codes "Gathering Facts") [] Setup ∷ plain_task (codes "debug") [] (Debug (text (codes "Hello world!"))) ∷ []);
        tasks = Nothing;
        post_tasks = Nothing;
        roles = [];
        handlers = [];
        force_handlers = false;
        strategy = Linear;
        serial = sizes [];
      } ∷ [];
    })
unfolding on_literals
gathering_first = refl

no_switch_of_gathering : playbook_of (codes "[{\"hosts\":3,\"gather_facts\":1}]") ≡ Err (WrongShape (codes "0/gather_facts"))
unfolding on_literals
no_switch_of_gathering = refl

-- a play without a name has its pattern's text as it is written; an element's text is trimmed
text_of_hosts : playbook_of (codes "[{\"hosts\":\" web : &db\",\"gather_facts\":false}]")
    ≡ Ok (record {
      plays = record {
        name = codes " web : &db";
        hosts = record { text = codes "web"; mark = Unmarked; what = Term (codes "web") None } ∷ record { text = codes "&db"; mark = Met; what = Term (codes "db") None } ∷ [];
        vars = [];
        any_errors_fatal = None;
        ignore_errors = false;
        max_fail_percentage = None;
        pre_tasks = Nothing;
        tasks = Nothing;
        post_tasks = Nothing;
        roles = [];
        handlers = [];
        force_handlers = false;
        strategy = Linear;
        serial = sizes [];
      } ∷ [];
    })
unfolding on_literals
text_of_hosts = refl

-- the texts of a list are cut each by itself and taken together
list_of_hosts : playbook_of (codes "[{\"hosts\":[\"web[0]\",\" \",\"!a\"],\"gather_facts\":false}]")
    ≡ Ok (record {
      plays = record {
        name = codes "web[0], ,!a";
        hosts = record { text = codes "web[0]"; mark = Unmarked; what = Term (codes "web") (Some (At 0)) } ∷ record { text = codes "!a"; mark = Excluded; what = Term (codes "a") None } ∷ [];
        vars = [];
        any_errors_fatal = None;
        ignore_errors = false;
        max_fail_percentage = None;
        pre_tasks = Nothing;
        tasks = Nothing;
        post_tasks = Nothing;
        roles = [];
        handlers = [];
        force_handlers = false;
        strategy = Linear;
        serial = sizes [];
      } ∷ [];
    })
unfolding on_literals
list_of_hosts = refl

-- `~` alone is the empty regular expression
empty_regex : playbook_of (codes "[{\"hosts\":\"~\",\"gather_facts\":false}]")
    ≡ Ok (record { plays = record { name = codes "~"; hosts = record { text = codes "~"; mark = Unmarked; what = Regex [] } ∷ []; vars = []; any_errors_fatal = None; ignore_errors = false; max_fail_percentage = None; pre_tasks = Nothing; tasks = Nothing; post_tasks = Nothing; roles = []; handlers = []; force_handlers = false; strategy = Linear; serial = sizes [] } ∷ [] })
unfolding on_literals
empty_regex = refl

-- the expressions that are met: each play's in the order of the plays, with the path of its hosts, up to the first fault
expressions_met : expressions_of_book (codes "[{\"hosts\":\"a,~(\",\"gather_facts\":false},{\"hosts\":[\"~b\",\"!~c\"],\"tasks\":3},{\"hosts\":\"~d\"}]") ≡ met_at (codes "0/hosts") (codes "(" ∷ []) ++ met_at (codes "1/hosts") (codes "b" ∷ codes "c" ∷ [])
unfolding on_literals
expressions_met = refl

no_expression_met : expressions_of_book (codes "[{\"hosts\":\"~b\",\"become\":true}]") ≡ []
unfolding on_literals
no_expression_met = refl

-- there has to be an element
no_texts : playbook_of (codes "[{\"hosts\":[]}]") ≡ Err (BadPattern (codes "0/hosts"))
unfolding on_literals
no_texts = refl

no_elements : playbook_of (codes "[{\"hosts\":[\" \",\",\"]}]") ≡ Err (BadPattern (codes "0/hosts"))
unfolding on_literals
no_elements = refl

bad_subscript : playbook_of (codes "[{\"hosts\":\"web[x]\"}]") ≡ Err (BadPattern (codes "0/hosts"))
unfolding on_literals
bad_subscript = refl

template_in_hosts : playbook_of (codes "[{\"hosts\":[\"a\",\"b{{ x }}\"]}]") ≡ Err (BadPattern (codes "0/hosts"))
unfolding on_literals
template_in_hosts = refl

-- the kinds of all values of `hosts` come first
no_text_in_hosts : playbook_of (codes "[{\"hosts\":[\"{{ x }}\",1,null]}]") ≡ Err (WrongShape (codes "0/hosts/1"))
unfolding on_literals
no_text_in_hosts = refl

no_text_at_hosts : playbook_of (codes "[{\"hosts\":null}]") ≡ Err (WrongShape (codes "0/hosts"))
unfolding on_literals
no_text_at_hosts = refl

no_list : playbook_of (codes "{}") ≡ Err (WrongShape [])
unfolding on_literals
no_list = refl

-- tasks may stand in three lists, each with its own path
three_lists : playbook_of (codes "[{\"hosts\":\"all\",\"gather_facts\":false,\"post_tasks\":[{\"debug\":{}}],\"pre_tasks\":[{\"name\":\"a\",\"debug\":{}}]}]")
    ≡ Ok (record {
      plays = record {
        name = codes "all";
        hosts = all_hosts;
        vars = [];
        any_errors_fatal = None;
        ignore_errors = false;
        max_fail_percentage = None;
        pre_tasks = only (plain_task (codes "a") [] (Debug (text (codes "Hello world!"))) ∷ []);
        tasks = Nothing;
        post_tasks = only (plain_task (codes "debug") [] (Debug (text (codes "Hello world!"))) ∷ []);
        roles = [];
        handlers = [];
        force_handlers = false;
        strategy = Linear;
        serial = sizes [];
      } ∷ [];
    })
unfolding on_literals
three_lists = refl

no_pre_task : playbook_of (codes "[{\"hosts\":\"all\",\"gather_facts\":false,\"pre_tasks\":[{\"debug\":{}},1]}]") ≡ Err (WrongShape (codes "0/pre_tasks/1"))
unfolding on_literals
no_pre_task = refl

-- keys without effect aren't read as values
without_effect_on_plays : playbook_of (codes "[{\"hosts\":\"all\",\"gather_facts\":false,\"connection\":\"local\",\"gather_subset\":1.5,\"no_log\":\"Off\",\"remote_user\":1.5,\"tags\":\"nevermore,always\"}]")
    ≡ Ok (record { plays = record { name = codes "all"; hosts = all_hosts; vars = []; any_errors_fatal = None; ignore_errors = false; max_fail_percentage = None; pre_tasks = Nothing; tasks = Nothing; post_tasks = Nothing; roles = []; handlers = []; force_handlers = false; strategy = Linear; serial = sizes [] } ∷ [] })
unfolding on_literals
without_effect_on_plays = refl

without_effect_on_tasks : playbook_of (codes "[{\"hosts\":\"all\",\"gather_facts\":false,\"tasks\":[{\"debug\":{},\"connection\":\"local\",\"gather_subset\":1.5,\"no_log\":false,\"remote_user\":1.5,\"tags\":[1.5,\"a\"]}]}]")
    ≡ Ok (record { plays = record { name = codes "all"; hosts = all_hosts; vars = []; any_errors_fatal = None; ignore_errors = false; max_fail_percentage = None; pre_tasks = Nothing; tasks = only (plain_task (codes "debug") [] (Debug (text (codes "Hello world!"))) ∷ []); post_tasks = Nothing; roles = []; handlers = []; force_handlers = false; strategy = Linear; serial = sizes [] } ∷ [] })
unfolding on_literals
without_effect_on_tasks = refl

tag_never : playbook_of (codes "[{\"hosts\":\"all\",\"gather_facts\":false,\"tags\":\"a, never\"}]") ≡ Err (NotInProfile (codes "never") (codes "0/tags"))
unfolding on_literals
tag_never = refl

tags_never : playbook_of (codes "[{\"hosts\":\"all\",\"gather_facts\":false,\"tasks\":[{\"debug\":{},\"tags\":[\"a\",\"never ,b\"]}]}]") ≡ Err (NotInProfile (codes "never") (codes "0/tasks/0/tags"))
unfolding on_literals
tags_never = refl

other_connection : playbook_of (codes "[{\"hosts\":\"all\",\"connection\":\"ssh\"}]") ≡ Err (NotInProfile (codes "connection") (codes "0/connection"))
unfolding on_literals
other_connection = refl

no_switch : playbook_of (codes "[{\"hosts\":\"all\",\"no_log\":5}]") ≡ Err (NotInProfile (codes "no_log") (codes "0/no_log"))
unfolding on_literals
no_switch = refl

-- the variables of a play and of a task, each under its name
variables : playbook_of (codes "[{\"hosts\":\"all\",\"gather_facts\":false,\"vars\":{\"b\":\"{{ a }}\",\"a\":1},\"tasks\":[{\"debug\":{},\"vars\":{\"-\":null}}]}]")
    ≡ Ok (record {
      plays = record {
        name = codes "all";
        hosts = all_hosts;
        vars = (codes "a", int (pos 1)) ∷ (codes "b", text (codes "{{ a }}")) ∷ [];
        any_errors_fatal = None;
        ignore_errors = false;
        max_fail_percentage = None;
        pre_tasks = Nothing;
        tasks = only (plain_task (codes "debug") ((codes "-", null) ∷ []) (Debug (text (codes "Hello world!"))) ∷ []);
        post_tasks = Nothing;
        roles = [];
        handlers = [];
        force_handlers = false;
        strategy = Linear;
        serial = sizes [];
      } ∷ [];
    })
unfolding on_literals
variables = refl

no_whole_variable : playbook_of (codes "[{\"hosts\":\"all\",\"vars\":{\"x\":1.5}}]") ≡ Err (WrongShape (codes "0/vars/x"))
unfolding on_literals
no_whole_variable = refl

no_variables : playbook_of (codes "[{\"hosts\":\"all\",\"tasks\":[{\"debug\":{},\"vars\":[]}]}]") ≡ Err (WrongShape (codes "0/tasks/0/vars"))
unfolding on_literals
no_variables = refl

no_template_in_variable : playbook_of (codes "[{\"hosts\":\"all\",\"vars\":{\"x\":\"{{ }}\"}}]") ≡ Err (BadExpression (codes "0/vars/x"))
unfolding on_literals
no_template_in_variable = refl

-- all keys of a play at once, in the order of their bytes
all_keys_of_play : playbook_of (codes "[{\"any_errors_fatal\":true,\"connection\":\"local\",\"force_handlers\":true,\"gather_facts\":false,\"gather_subset\":[],\"handlers\":[{\"shell\":\"h\"}],\"hosts\":\"all\",\"ignore_errors\":true,\"max_fail_percentage\":20,\"name\":\"p\",\"no_log\":false,\"post_tasks\":[{\"shell\":\"c\"}],\"pre_tasks\":[{\"shell\":\"a\"}],\"remote_user\":\"r\",\"roles\":[\"app\"],\"serial\":[1,\"50%\"],\"strategy\":\"free\",\"tags\":\"t\",\"tasks\":[{\"shell\":\"b\"}],\"vars\":{\"x\":1}}]")
    ≡ Ok (record {
      plays = record {
        name = codes "p";
        hosts = all_hosts;
        vars = (codes "x", int (pos 1)) ∷ [];
        any_errors_fatal = Some true;
        ignore_errors = true;
        max_fail_percentage = Some 20;
        pre_tasks = only (plain_task (codes "shell") [] (Shell (codes "a")) ∷ []);
        tasks = only (plain_task (codes "shell") [] (Shell (codes "b")) ∷ []);
        post_tasks = only (plain_task (codes "shell") [] (Shell (codes "c")) ∷ []);
        roles = named_alone (codes "app") ∷ [];
        handlers = record { task = plain_task (codes "shell") [] (Shell (codes "h")); listens = [] } ∷ [];
        force_handlers = true;
        strategy = Free;
        serial = sizes (Number (pos 1) ∷ Percent 50 ∷ []);
      } ∷ [];
    })
unfolding on_literals
all_keys_of_play = refl

-- all keys of a task at once, with one module
all_keys_of_task : playbook_of (codes "[{\"hosts\":\"all\",\"gather_facts\":false,\"tasks\":[{\"any_errors_fatal\":true,\"connection\":\"local\",\"delegate_facts\":true,\"delegate_to\":\"{{ h }}\",\"gather_subset\":[],\"name\":\"n\",\"no_log\":false,\"remote_user\":\"r\",\"run_once\":false,\"shell\":\"a\",\"tags\":\"t\",\"throttle\":2,\"vars\":{\"x\":1}}]}]")
    ≡ Ok (record {
      plays = record {
        name = codes "all";
        hosts = all_hosts;
        vars = [];
        any_errors_fatal = None;
        ignore_errors = false;
        max_fail_percentage = None;
        pre_tasks = Nothing;
        tasks = only (record (plain_task (codes "n") ((codes "x", int (pos 1)) ∷ []) (Shell (codes "a"))) { throttle = Some 2; couplings = record { any_errors_fatal = Some true; delegate_facts = Some true; delegate_to = Some (codes "{{ h }}"); run_once = Some false } } ∷ []);
        post_tasks = Nothing;
        roles = [];
        handlers = [];
        force_handlers = false;
        strategy = Linear;
        serial = sizes [];
      } ∷ [];
    })
unfolding on_literals
all_keys_of_task = refl

-- the keys of a task that say when, how often and with what end it runs
keys_of_a_task : playbook_of (codes "[{\"hosts\":\"all\",\"gather_facts\":false,\"tasks\":[{\"ignore_errors\":true,\"loop\":[1],\"loop_control\":{\"loop_var\":\"v\"},\"when\":\"x\",\"debug\":{\"msg\":\"m\"}}]}]")
    ≡ Ok (record {
      plays = record {
        name = codes "all";
        hosts = all_hosts;
        vars = [];
        any_errors_fatal = None;
        ignore_errors = false;
        max_fail_percentage = None;
        pre_tasks = Nothing;
        tasks =
            only (record (plain_task (codes "debug") [] (Debug (text (codes "m")))) {
              conditions = Name (codes "x") ∷ [];
              looped = Some (record { over = list (items_of (int (pos 1) ∷ [])); variable = codes "v" });
              ignore_errors = Some true;
            } ∷ []);
        post_tasks = Nothing;
        roles = [];
        handlers = [];
        force_handlers = false;
        strategy = Linear;
        serial = sizes [];
      } ∷ [];
    })
unfolding on_literals
keys_of_a_task = refl

-- a play may ignore failures, and a task of it may not; `assert` is a module
keys_of_a_play : playbook_of (codes "[{\"hosts\":\"all\",\"gather_facts\":false,\"ignore_errors\":true,\"tasks\":[{\"assert\":{\"that\":\"x\"}},{\"ignore_errors\":false,\"fail\":{}}]}]")
    ≡ Ok (record {
      plays = record {
        name = codes "all";
        hosts = all_hosts;
        vars = [];
        any_errors_fatal = None;
        ignore_errors = true;
        max_fail_percentage = None;
        pre_tasks = Nothing;
        tasks =
            only (plain_task (codes "assert") [] (Assert (Name (codes "x") ∷ []) (text (codes "Assertion failed")) (text (codes "All assertions passed"))) ∷
            record (plain_task (codes "fail") [] (Fail (text (codes "Failed as requested from task")))) { ignore_errors = Some false } ∷ []);
        post_tasks = Nothing;
        roles = [];
        handlers = [];
        force_handlers = false;
        strategy = Linear;
        serial = sizes [];
      } ∷ [];
    })
unfolding on_literals
keys_of_a_play = refl

-- what stands under them is looked at in their turn
no_condition : playbook_of (codes "[{\"hosts\":\"all\",\"gather_facts\":false,\"tasks\":[{\"when\":[[]],\"zzz\":1,\"debug\":{}}]}]") ≡ Err (WrongShape (codes "0/tasks/0/when/0"))
unfolding on_literals
no_condition = refl

-- what a task says of its result, and the name under which it is kept; `set_fact` is a module
keys_of_a_result : playbook_of (codes "[{\"hosts\":\"all\",\"gather_facts\":false,\"tasks\":[{\"changed_when\":false,\"failed_when\":\"x\",\"register\":\"r\",\"shell\":\"a\"},{\"set_fact\":{\"y\":1}}]}]")
    ≡ Ok (record {
      plays = record {
        name = codes "all";
        hosts = all_hosts;
        vars = [];
        any_errors_fatal = None;
        ignore_errors = false;
        max_fail_percentage = None;
        pre_tasks = Nothing;
        tasks =
            only (record (plain_task (codes "shell") [] (Shell (codes "a"))) { register = Some (codes "r"); changed_when = Some (Truth false ∷ []); failed_when = Some (Name (codes "x") ∷ []) }
            ∷ plain_task (codes "set_fact") [] (SetFact ((codes "y", int (pos 1)) ∷ [])) ∷ []);
        post_tasks = Nothing;
        roles = [];
        handlers = [];
        force_handlers = false;
        strategy = Linear;
        serial = sizes [];
      } ∷ [];
    })
unfolding on_literals
keys_of_a_result = refl

no_name_of_register : playbook_of (codes "[{\"hosts\":\"all\",\"gather_facts\":false,\"tasks\":[{\"register\":\"a b\",\"zzz\":1,\"debug\":{}}]}]") ≡ Err (WrongShape (codes "0/tasks/0/register"))
unfolding on_literals
no_name_of_register = refl

no_condition_of_change : playbook_of (codes "[{\"hosts\":\"all\",\"gather_facts\":false,\"tasks\":[{\"changed_when\":1,\"zzz\":1,\"debug\":{}}]}]") ≡ Err (WrongShape (codes "0/tasks/0/changed_when"))
unfolding on_literals
no_condition_of_change = refl
