-- What stands at a place of a play's tree: a task, with all that it has from its own keys, the blocks round it, its role and its play
-- (Ansible's documentation, "Playbook keywords", "Blocks" and "Roles").
use Rattle.std.specs.Prelude.{ℕ, Bool, false, List, [], Option, None, unwrap_or, if◌then◌else◌}
use Rattle.pb_expr_syntax.specs.Tree.{Tree}
use Rattle.pb_layers.specs.Scope.{Map}
use Rattle.pb_play.specs.Modules.{is_meta}
use Rattle.pb_play.specs.Tasks.{plain_task}
use Rattle.pb_play.specs.declared.modules.Module.{Module}
use Rattle.pb_play.specs.declared.task.Task.{Task}
use Rattle.pb_places.specs.declared.surroundings.Role.{Role}

pub record PlaceOf : Type 0 where
  pub task : Task
  -- those of the role, of the outer blocks, of the inner blocks, and the task's own
  pub conditions : List Tree
  -- those of the blocks, the inner over the outer
  pub block_vars : Map
  -- the variables of the role that the task comes from: its defaults, its own, and the parameters that it was given
  pub role : Role
  pub ignore_errors : Bool
  pub any_errors_fatal : Bool
  -- how many hosts may run the task at once; 0 is any number
  pub throttle : ℕ
  pub run_once : Bool
  pub delegate_to : Option (List ℕ)
  pub delegate_facts : Bool
  -- whether a block round the place has it in its body and has a rescue
  pub is_caught : Bool
  -- the numbers of the play's handlers that the task notifies, by name or by topic, in order
  pub notifies : List ℕ
  -- in a Flush, the number of the handler whose place it is
  pub handler : Option ℕ

-- the role of a task that comes from none: it has no variables
abbrev pub no_role : Role
no_role = record { defaults = []; vars = []; params = [] }

-- a task of `meta` steers the run, and runs on no host in place of another
abbrev pub delegate_for : Module → Option (List ℕ) → Option (List ℕ)
delegate_for called to = if is_meta called then None else to

-- a task on its own has what its own keys say
abbrev pub place_of : Task → PlaceOf
place_of task =
    record {
      task = task;
      conditions = task.conditions;
      block_vars = [];
      role = no_role;
      ignore_errors = unwrap_or task.ignore_errors false;
      any_errors_fatal = unwrap_or task.couplings.any_errors_fatal false;
      throttle = unwrap_or task.throttle 0;
      run_once = unwrap_or task.couplings.run_once false;
      delegate_to = delegate_for task.«module» task.couplings.delegate_to;
      delegate_facts = unwrap_or task.couplings.delegate_facts false;
      is_caught = false;
      notifies = [];
      handler = None;
    }

-- what worked examples are made of: a task without variables, and its place
abbrev pub bare_task : List ℕ → Module → Task
bare_task name called = plain_task name [] called

abbrev pub bare_place : List ℕ → Module → PlaceOf
bare_place name called = place_of (bare_task name called)
