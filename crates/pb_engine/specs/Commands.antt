-- What an engine may be commanded, and why it isn't taken.
use Rattle.std.specs.Prelude.{ℕ, nat_le, Bool, true, ◌&&◌, not, Option, Some, None, if◌then◌else◌}
use Rattle.std.specs.List.{list_any}
use Rattle.pb_planes.specs.Set.{has_some}
use Rattle.pb_plan.specs.Plan.{PlanOf}
use Rattle.pb_state.specs.declared.event.Event.{Event}
use Rattle.pb_state.specs.declared.event.Event.TheVariants.{Open, Turn, Close, Stop, Forks}
use Rattle.pb_state.specs.State.{State}
use Rattle.pb_host.specs.Runs.{is_out}
use Rattle.pb_state.specs.Machine.{possible, ready}
use Rattle.pb_engine.specs.declared.command.Command.{Command}
use Rattle.pb_engine.specs.declared.command.Command.TheVariants.{Stop as ToStop, Forks as ToForks}
use Rattle.pb_engine.specs.declared.command.CommandFault.{CommandFault}
use Rattle.pb_engine.specs.declared.command.CommandFault.TheVariants.{BadForks, Finished}

-- the event that a command is
abbrev pub event_for : Command → Event
event_for ToStop = Stop
event_for (ToForks n) = Forks n

-- the forks are at least one, and at most as many as the pool has workers
abbrev pub is_in_range : ℕ → Command → Bool
is_in_range pool ToStop = true
is_in_range pool (ToForks n) = nat_le 1 n && nat_le n pool

-- whether a state is finished: nobody is ready, no turn, close or open is possible, and no job is out
abbrev pub is_finished : PlanOf → State → Bool
is_finished plan s =
    not (has_some (ready plan s)) && not (possible plan s Turn) && not (possible plan s Close) && not (possible plan s Open) && not (list_any is_out s.rows)

-- why a command isn't taken, if it isn't; want of memory is another matter
abbrev pub fault_of : PlanOf → ℕ → State → Command → Option CommandFault
fault_of plan pool s command = if not (is_in_range pool command) then Some BadForks else if is_finished plan s then Some Finished else None
