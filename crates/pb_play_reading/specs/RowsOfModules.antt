-- Worked playbooks of each module: what their texts spell, or the first fault in them.
use Rattle.std.specs.Prelude.{◌≡◌, pos, false, [], ◌∷◌, None, Ok, Err, codes, refl}
use Rattle.pb_expr_syntax.specs.Tree.{Name}
use Rattle.pb_value.specs.Datum.{null, int, text, list, dict, no_members, member}
use Rattle.pb_play_reading.specs.Batches.{sizes}
use Rattle.pb_play_reading.specs.Playbooks.{playbook_of}
use Rattle.pb_play.specs.Nodes.{Nothing, Task}
use Rattle.pb_play.specs.Tasks.{plain_task}
use Rattle.pb_play_reading.specs.Tasks.{task}
use Rattle.pb_written.specs.declared.fault.LoadFault.TheVariants.{WrongShape, NotInProfile, TwoModules, BadExpression}
use Rattle.pb_play.specs.declared.commands.CommandWords.TheVariants.{Line, Argv}
use Rattle.pb_play.specs.declared.modules.Module.TheVariants.{Command, DebugVar, Fail, Setup, Shell}
use Rattle.pb_play.specs.declared.task.Task as declared
use Rattle.pb_strategies.specs.declared.strategy.Strategy.TheVariants.{Linear}
use Rattle.pb_play_reading.specs.Rows.{on_literals, only, all_hosts}

-- the modules `command`, `fail` and `shell`, each in every form of its arguments
commands : playbook_of (codes "[{\"hosts\":\"all\",\"gather_facts\":false,\"tasks\":[{\"command\":\"ls -l\"},{\"command\":{\"cmd\":\"'\"}},{\"ansible.builtin.command\":{\"argv\":[\"ls\",1,null]}}]}]")
    ≡ Ok (record {
      plays = record {
        name = codes "all";
        hosts = all_hosts;
        vars = [];
        any_errors_fatal = None;
        ignore_errors = false;
        max_fail_percentage = None;
        pre_tasks = Nothing;
        tasks =
            only (plain_task (codes "command") [] (Command (Line (codes "ls -l"))) ∷
            plain_task (codes "command") [] (Command (Line (codes "'"))) ∷
            plain_task (codes "command") [] (Command (Argv (text (codes "ls") ∷ int (pos 1) ∷ null ∷ []))) ∷ []);
        post_tasks = Nothing;
        roles = [];
        handlers = [];
        force_handlers = false;
        strategy = Linear;
        serial = sizes [];
      } ∷ [];
    })
unfolding on_literals
commands = refl

shells : playbook_of (codes "[{\"hosts\":\"all\",\"gather_facts\":false,\"tasks\":[{\"shell\":\"\"},{\"ansible.builtin.shell\":{\"cmd\":\"a | b\"}}]}]")
    ≡ Ok (record {
      plays = record {
        name = codes "all";
        hosts = all_hosts;
        vars = [];
        any_errors_fatal = None;
        ignore_errors = false;
        max_fail_percentage = None;
        pre_tasks = Nothing;
        tasks = only (plain_task (codes "shell") [] (Shell []) ∷ plain_task (codes "shell") [] (Shell (codes "a | b")) ∷ []);
        post_tasks = Nothing;
        roles = [];
        handlers = [];
        force_handlers = false;
        strategy = Linear;
        serial = sizes [];
      } ∷ [];
    })
unfolding on_literals
shells = refl

fails : playbook_of (codes "[{\"hosts\":\"all\",\"gather_facts\":false,\"tasks\":[{\"fail\":{}},{\"ansible.builtin.fail\":{\"msg\":1}}]}]")
    ≡ Ok (record {
      plays = record {
        name = codes "all";
        hosts = all_hosts;
        vars = [];
        any_errors_fatal = None;
        ignore_errors = false;
        max_fail_percentage = None;
        pre_tasks = Nothing;
        tasks = only (plain_task (codes "fail") [] (Fail (text (codes "Failed as requested from task"))) ∷ plain_task (codes "fail") [] (Fail (int (pos 1))) ∷ []);
        post_tasks = Nothing;
        roles = [];
        handlers = [];
        force_handlers = false;
        strategy = Linear;
        serial = sizes [];
      } ∷ [];
    })
unfolding on_literals
fails = refl

-- `setup` has no arguments, and gathers facts where it stands
setups : playbook_of (codes "[{\"hosts\":\"all\",\"gather_facts\":false,\"tasks\":[{\"setup\":{}},{\"ansible.builtin.setup\":{}}]}]")
    ≡ Ok (record {
      plays = record {
        name = codes "all";
        hosts = all_hosts;
        vars = [];
        any_errors_fatal = None;
        ignore_errors = false;
        max_fail_percentage = None;
        pre_tasks = Nothing;
        tasks = only (plain_task (codes "setup") [] Setup ∷ plain_task (codes "setup") [] Setup ∷ []);
        post_tasks = Nothing;
        roles = [];
        handlers = [];
        force_handlers = false;
        strategy = Linear;
        serial = sizes [];
      } ∷ [];
    })
unfolding on_literals
setups = refl

argument_of_setup : playbook_of (codes "[{\"hosts\":\"all\",\"tasks\":[{\"setup\":{\"filter\":\"os\"}}]}]") ≡ Err (NotInProfile (codes "filter") (codes "0/tasks/0/setup/filter"))
unfolding on_literals
argument_of_setup = refl

-- the keys come first, and then that one of the two has to be there
both_forms : playbook_of (codes "[{\"hosts\":\"all\",\"tasks\":[{\"command\":{\"argv\":[],\"cmd\":\"a\"}}]}]") ≡ Err (WrongShape (codes "0/tasks/0/command"))
unfolding on_literals
both_forms = refl

neither_form : playbook_of (codes "[{\"hosts\":\"all\",\"tasks\":[{\"command\":{}}]}]") ≡ Err (WrongShape (codes "0/tasks/0/command"))
unfolding on_literals
neither_form = refl

unknown_argument : playbook_of (codes "[{\"hosts\":\"all\",\"tasks\":[{\"command\":{\"argv\":[],\"chdir\":1,\"cmd\":1}}]}]") ≡ Err (NotInProfile (codes "chdir") (codes "0/tasks/0/command/chdir"))
unfolding on_literals
unknown_argument = refl

-- a list is one value, with one path
refused_word : playbook_of (codes "[{\"hosts\":\"all\",\"tasks\":[{\"command\":{\"argv\":[1,1.5]}}]}]") ≡ Err (WrongShape (codes "0/tasks/0/command/argv"))
unfolding on_literals
refused_word = refl

no_words_for_shell : playbook_of (codes "[{\"hosts\":\"all\",\"tasks\":[{\"shell\":{\"argv\":[]}}]}]") ≡ Err (NotInProfile (codes "argv") (codes "0/tasks/0/shell/argv"))
unfolding on_literals
no_words_for_shell = refl

no_arguments_of_fail : playbook_of (codes "[{\"hosts\":\"all\",\"tasks\":[{\"fail\":null}]}]") ≡ Err (WrongShape (codes "0/tasks/0/fail"))
unfolding on_literals
no_arguments_of_fail = refl

-- the kinds of values come first, and then their texts, at any depth but for keys
no_template_in_command : playbook_of (codes "[{\"hosts\":\"all\",\"tasks\":[{\"command\":\"run {{ item\"}]}]") ≡ Err (BadExpression (codes "0/tasks/0/command"))
unfolding on_literals
no_template_in_command = refl

no_template_in_word : playbook_of (codes "[{\"hosts\":\"all\",\"tasks\":[{\"command\":{\"argv\":[[\"{% x\"]]}}]}]") ≡ Err (BadExpression (codes "0/tasks/0/command/argv"))
unfolding on_literals
no_template_in_word = refl

no_template_in_key : playbook_of (codes "[{\"hosts\":\"all\",\"gather_facts\":false,\"tasks\":[{\"fail\":{\"msg\":{\"{% x\":\"a\"}}}]}]")
    ≡ Ok (record {
      plays = record {
        name = codes "all";
        hosts = all_hosts;
        vars = [];
        any_errors_fatal = None;
        ignore_errors = false;
        max_fail_percentage = None;
        pre_tasks = Nothing;
        tasks = only (plain_task (codes "fail") [] (Fail (dict (member (codes "{% x") (text (codes "a")) no_members))) ∷ []);
        post_tasks = Nothing;
        roles = [];
        handlers = [];
        force_handlers = false;
        strategy = Linear;
        serial = sizes [];
      } ∷ [];
    })
unfolding on_literals
no_template_in_key = refl

-- `debug` shows the value of an expression, which stands without braces
shown : playbook_of (codes "[{\"hosts\":\"all\",\"gather_facts\":false,\"tasks\":[{\"debug\":{\"var\":\"x\"}}]}]")
    ≡ Ok (record { plays = record { name = codes "all"; hosts = all_hosts; vars = []; any_errors_fatal = None; ignore_errors = false; max_fail_percentage = None; pre_tasks = Nothing; tasks = only (plain_task (codes "debug") [] (DebugVar (codes "x") (Name (codes "x"))) ∷ []); post_tasks = Nothing; roles = []; handlers = []; force_handlers = false; strategy = Linear; serial = sizes [] } ∷ [] })
unfolding on_literals
shown = refl

no_expression : playbook_of (codes "[{\"hosts\":\"all\",\"tasks\":[{\"debug\":{\"var\":\"{{ x }}\"}}]}]") ≡ Err (BadExpression (codes "0/tasks/0/debug/var"))
unfolding on_literals
no_expression = refl

no_text_at_var : playbook_of (codes "[{\"hosts\":\"all\",\"tasks\":[{\"debug\":{\"var\":1}}]}]") ≡ Err (WrongShape (codes "0/tasks/0/debug/var"))
unfolding on_literals
no_text_at_var = refl

message_and_expression : playbook_of (codes "[{\"hosts\":\"all\",\"tasks\":[{\"debug\":{\"msg\":1,\"var\":\"x\"}}]}]") ≡ Err (WrongShape (codes "0/tasks/0/debug"))
unfolding on_literals
message_and_expression = refl

no_expression_of_fail : playbook_of (codes "[{\"hosts\":\"all\",\"tasks\":[{\"fail\":{\"var\":\"x\"}}]}]") ≡ Err (NotInProfile (codes "var") (codes "0/tasks/0/fail/var"))
unfolding on_literals
no_expression_of_fail = refl

other_modules : playbook_of (codes "[{\"hosts\":\"all\",\"tasks\":[{\"command\":\"a\",\"shell\":\"a\"}]}]") ≡ Err (TwoModules (codes "0/tasks/0"))
unfolding on_literals
other_modules = refl

other_prefix : playbook_of (codes "[{\"hosts\":\"all\",\"tasks\":[{\"ansible.builtin.copy\":\"a\"}]}]") ≡ Err (NotInProfile (codes "ansible.builtin.copy") (codes "0/tasks/0/ansible.builtin.copy"))
unfolding on_literals
other_prefix = refl

-- all arguments of a module at once: those of `command` and of `debug` are refused together, so that both were read; `fail` and `shell` have one each
all_arguments_of_command : playbook_of (codes "[{\"hosts\":\"all\",\"tasks\":[{\"command\":{\"argv\":[\"a\"],\"cmd\":\"a\"}}]}]") ≡ Err (WrongShape (codes "0/tasks/0/command"))
unfolding on_literals
all_arguments_of_command = refl

all_arguments_of_debug : playbook_of (codes "[{\"hosts\":\"all\",\"tasks\":[{\"debug\":{\"msg\":\"a\",\"var\":\"x\"}}]}]") ≡ Err (WrongShape (codes "0/tasks/0/debug"))
unfolding on_literals
all_arguments_of_debug = refl

all_arguments_of_fail_and_shell : playbook_of (codes "[{\"hosts\":\"all\",\"gather_facts\":false,\"tasks\":[{\"fail\":{\"msg\":\"a\"}},{\"shell\":{\"cmd\":\"b\"}}]}]")
    ≡ Ok (record {
      plays = record {
        name = codes "all";
        hosts = all_hosts;
        vars = [];
        any_errors_fatal = None;
        ignore_errors = false;
        max_fail_percentage = None;
        pre_tasks = Nothing;
        tasks = only (plain_task (codes "fail") [] (Fail (text (codes "a"))) ∷ plain_task (codes "shell") [] (Shell (codes "b")) ∷ []);
        post_tasks = Nothing;
        roles = [];
        handlers = [];
        force_handlers = false;
        strategy = Linear;
        serial = sizes [];
      } ∷ [];
    })
unfolding on_literals
all_arguments_of_fail_and_shell = refl
