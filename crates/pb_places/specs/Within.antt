-- The place of a task in its surroundings, as the code keeps them.
use Rattle.std.specs.Prelude.{[], Option, Some, None, Box, option_map, unwrap_or}
use Rattle.std.specs.Arc.{arc_value}
use Rattle.std.specs.Global.{Global}
use Rattle.pb_play.specs.declared.task.Task.{Task}
use Rattle.pb_places.specs.declared.surroundings.Surroundings.{Surroundings}
use Rattle.pb_places.specs.Place.{PlaceOf, no_role, place_of}

-- the place of a task in surroundings; where these give no conditions, they are the task's own
abbrev pub placed : Task → Surroundings → PlaceOf
placed task given =
    record {
      task = task;
      conditions = unwrap_or (option_map arc_value given.conditions) task.conditions;
      block_vars = unwrap_or (option_map arc_value given.block_vars) [];
      role = unwrap_or (option_map arc_value given.role) no_role;
      ignore_errors = given.ignore_errors;
      any_errors_fatal = given.any_errors_fatal;
      throttle = given.throttle;
      run_once = given.run_once;
      delegate_to = given.delegate_to;
      delegate_facts = given.delegate_facts;
      is_caught = given.is_caught;
      notifies = given.notifies;
      handler = given.handler;
    }

-- where there are none the task stands alone
abbrev pub placed_in : Task → Option (Box Surroundings Global) → PlaceOf
placed_in task None = place_of task
placed_in task (Some given) = placed task given.value
