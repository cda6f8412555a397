-- How tasks are read. See Ansible's documentation, "Playbook Keywords", Task.
use Rattle.std.specs.Prelude.{ℕ, List, [], Ok, Err, Option, Some, None, codes, unwrap_or}
use Rattle.serde_json.specs.Data as json
use Rattle.pb_value.specs.Datum.{Datum}
use Rattle.pb_value.specs.Reading.{map_ok}
use Rattle.pb_expr_syntax.specs.Tree.{Tree}
use Rattle.pb_reading.specs.Fields.{◌>>=◌, Part, field, field_or, others, object, rule}
use Rattle.pb_reading.specs.Simple.{text}
use Rattle.pb_reading.specs.Reading.{Reading, Own}
use Rattle.pb_written.specs.Conditions.{conditions}
use Rattle.pb_play_reading.specs.Couplings.{coupled, delegation}
use Rattle.pb_play_reading.specs.Loops.{over, item, control, looped}
use Rattle.pb_play.specs.Modules.{module_name}
use Rattle.pb_play_reading.specs.Modules.{module_key, module_of}
use Rattle.pb_play_reading.specs.NoEffect.{without_effect}
use Rattle.pb_play_reading.specs.Retrying.{delay, tries, may_retry, retrying_of}
use Rattle.pb_written.specs.Simple.{switched, variable_name}
use Rattle.pb_written.specs.Texts.{texts}
use Rattle.pb_play_reading.specs.Variables.{variables}
use Rattle.pb_written.specs.declared.fault.LoadFault.{LoadFault}
use Rattle.pb_written.specs.declared.fault.LoadFault.TheVariants.{NoModule, TwoModules}
use Rattle.pb_play.specs.declared.loops.Loop.{Loop}
use Rattle.pb_play.specs.declared.modules.Module.{Module}
use Rattle.pb_play_reading.specs.declared.modules.ModuleKey.{ModuleKey}
use Rattle.pb_play_reading.specs.declared.retrying.Tries.{Tries}
use Rattle.pb_play.specs.declared.task.Task.{Task}
use Rattle.pb_play_reading.specs.declared.task.Head.{Head}
use Rattle.pb_play_reading.specs.declared.task.Begun.{Begun}
use Rattle.pb_play_reading.specs.declared.task.FirstKeys.{FirstKeys}
use Rattle.pb_play_reading.specs.declared.task.Failing.{Failing}
use Rattle.pb_play_reading.specs.declared.task.Middle.{Middle}
use Rattle.pb_play_reading.specs.declared.task.Rest.{Rest}
use Rattle.pb_play_reading.specs.declared.task.Modules.{Modules}
use Rattle.pb_play_reading.specs.declared.task.Modules.TheVariants.{Nothing, One, Several}

-- one module more
abbrev pub one_more : Modules → Module → Modules
one_more Nothing m = One m
one_more (One _) m = Several
one_more Several m = Several

-- a module's key tells that module, and another key has no effect
abbrev pub told_by : Option ModuleKey → Modules → List ℕ → List ℕ → json.Data → Reading Modules LoadFault
told_by (Some named) modules path k d = map_ok (one_more modules) (module_of named path d)
told_by None modules path k d = map_ok (λ _. modules) (without_effect path k d)

unfoldable pub tells_of_task : Modules → List ℕ → List ℕ → json.Data → Reading Modules LoadFault
tells_of_task modules path k d = told_by (module_key k) modules path k d

-- the task at a path has one module
abbrev pub the_module : List ℕ → Modules → Reading Module LoadFault
the_module path Nothing = Err (Own (NoModule path))
the_module path (One m) = Ok m
the_module path Several = Err (Own (TwoModules path))

-- a key of a task, whose other keys call a module or have no effect, and one with what counts where it isn't written
abbrev pub key : {A : Type 0} → List ℕ → (List ℕ → json.Data → Reading A LoadFault) → Part Modules LoadFault (Option A)
key = field tells_of_task

abbrev pub key_or : {A : Type 0} → List ℕ → (List ℕ → json.Data → Reading A LoadFault) → A → Part Modules LoadFault A
key_or = field_or tells_of_task

-- whether its failure ends the play for all hosts, when it has changed something, and how many seconds lie between two attempts at it
abbrev pub first_keys : Part Modules LoadFault FirstKeys
first_keys = do
  any_errors_fatal ← key (codes "any_errors_fatal") switched
  changed_when ← key (codes "changed_when") conditions
  delay ← key (codes "delay") delay
  rule (Ok (record { any_errors_fatal = any_errors_fatal; changed_when = changed_when; delay = delay }))

-- when it has failed, and whether its failure is ignored
abbrev pub failing : Part Modules LoadFault Failing
failing = do
  failed_when ← key (codes "failed_when") conditions
  ignore_errors ← key (codes "ignore_errors") switched
  rule (Ok (record { failed_when = failed_when; ignore_errors = ignore_errors }))

-- what a task says of the result of its module, and of the host that runs it
abbrev pub head : Part Modules LoadFault Head
head = do
  first ← first_keys
  delegation ← delegation tells_of_task
  failing ← failing
  rule (Ok (record { first = first; delegation = delegation; failing = failing }))

-- the task that begins with this head
abbrev pub task_of_head : Head → Rest → Option Loop → Module → Task
task_of_head head rest looped called =
    record {
      name = rest.name;
      vars = rest.vars;
      «module» = called;
      conditions = rest.conditions;
      looped = looped;
      register = rest.register;
      changed_when = head.first.changed_when;
      failed_when = head.failing.failed_when;
      ignore_errors = head.failing.ignore_errors;
      throttle = rest.tries.runs.throttle;
      couplings = coupled head.first.any_errors_fatal head.delegation rest.tries.runs.run_once;
      notify = rest.notify;
      retrying = retrying_of rest.tries.until rest.tries.retries head.first.delay;
    }

-- what is said of a task beside that; one without a name has that of the module that it calls
abbrev pub said_beside : Middle → Module → List (List ℕ × Datum) → List Tree → Rest
said_beside middle called vars conditions =
    record {
      name = unwrap_or middle.name (module_name called);
      notify = middle.notify;
      register = middle.register;
      tries = middle.tries;
      vars = vars;
      conditions = conditions;
    }

-- the task that begins with this
abbrev pub begun_task : Begun → List (List ℕ × Datum) → Module → List Tree → Task
begun_task begun vars called conditions = task_of_head begun.head (said_beside begun.middle called vars conditions) begun.looped called

-- what a task is repeated over, if it is, and the name of its loop's variable
abbrev pub looping : Part Modules LoadFault (Option Loop)
looping = do
  over ← key (codes "loop") over
  variable ← key_or (codes "loop_control") control item
  rule (Ok (looped over variable))

-- its keys between `loop_control` and `vars`; one that says nothing notifies no handler
abbrev pub middle : Part Modules LoadFault Middle
middle = do
  name ← key (codes "name") text
  notify ← key_or (codes "notify") texts []
  register ← key (codes "register") variable_name
  tries ← tries tells_of_task
  rule (Ok (record { name = name; notify = notify; register = register; tries = tries }))

-- the module of the task at a path, which is tried so
abbrev pub module_at : List ℕ → Tries → Part Modules LoadFault Module
module_at path tries = do
  modules ← others tells_of_task
  m ← rule (the_module path modules)
  _ ← rule (may_retry path m tries)
  rule (Ok m)

-- a task behind its keys up to `until`; one that says nothing has no variables and no conditions
abbrev pub last_of_task : List ℕ → Begun → Part Modules LoadFault Task
last_of_task path begun = do
  vars ← key_or (codes "vars") variables []
  conditions ← key_or (codes "when") conditions []
  m ← module_at path begun.middle.tries
  rule (Ok (begun_task begun vars m conditions))

-- a task behind these
abbrev pub rest_of_task : List ℕ → Head → Option Loop → Part Modules LoadFault Task
rest_of_task path head looped = do
  middle ← middle
  last_of_task path (record { head = head; looped = looped; middle = middle })

-- a task
unfoldable pub task : List ℕ → json.Data → Reading Task LoadFault
task path = object Nothing (do
  head ← head
  looped ← looping
  rest_of_task path head looped) path
