-- The recap, counted from scratch: which tasks the events of a run finish, and how each of them counts
-- (Ansible's documentation, "Return Values").
use Rattle.std.specs.Prelude.{ℕ, ◌+◌, ◌==◌, Bool, ◌&&◌, ◌||◌, not, List, [], ◌∷◌, Option, Some, None, is_none, option_map, if◌then◌else◌}
use Rattle.std.specs.Option.{option_map_or}
use Rattle.pb_outcome.specs.declared.gather.TaskResult.{TaskResult}
use Rattle.pb_host.specs.declared.step_result.StepResult.{StepResult}
use Rattle.pb_host.specs.declared.step_result.TaskDone.{TaskDone}
use Rattle.pb_host.specs.declared.step_result.TaskEnd.{TaskEnd}
use Rattle.pb_state.specs.declared.event.Event.{Event}
use Rattle.pb_state.specs.declared.event.Event.TheVariants.{Open, Start, Send, Report as Reported, Turn, Close, Stop, Forks}
use Rattle.pb_host.specs.declared.host.Counts.{Counts}
use Rattle.pb_plan.specs.Plan.{PlanOf}
use Rattle.pb_state.specs.State.{State}
use Rattle.pb_state.specs.Machine.{after, first_state}
use Rattle.pb_lanes.specs.declared.kind.CountKind.{CountKind}
use Rattle.pb_lanes.specs.declared.kind.CountKind.TheVariants.{Okay, Changed, Unreachable, Failed, Skipped, Rescued, Ignored}

-- a finished task: the host's number, and how the task ended there
pub record FinishedTask : Type 0 where
  pub host : ℕ
  pub task : TaskEnd

abbrev pub by_host : ℕ → TaskDone → FinishedTask
by_host h done = record { host = h; task = done.task }

-- the task that a step ended on the host with this number, if it ended one
abbrev pub ended_by : ℕ → StepResult → Option FinishedTask
ended_by h step_result = option_map (by_host h) step_result.done

-- the task of a host that the step to a state ended: the step says how, if it ended one
abbrev pub ended_in : State → ℕ → Option FinishedTask
ended_in s h = option_map_or (ended_by h) s.step_result None

-- the task that an event finished, by the state after it: a task ends as it starts, or with the report that it waited for
abbrev pub finished_in : State → Event → Option FinishedTask
finished_in s Open = None
finished_in s (Start h) = ended_in s h.0
finished_in s (Send h item attempt ticket) = None
finished_in s (Reported r) = ended_in s r.host.0
finished_in s Turn = None
finished_in s Close = None
finished_in s Stop = None
finished_in s (Forks n) = None

-- the task that an event finishes, by the state before it
abbrev pub finishes : PlanOf → State → Event → Option FinishedTask
finishes plan s e = finished_in (after plan s e) e

-- neither failed, skipped nor unreachable
abbrev pub went_well : TaskResult → Bool
went_well task = not (task.failed || task.skipped || task.unreachable)

-- a failure that is ignored
abbrev pub is_ignored : TaskResult → Bool
is_ignored task = task.failed && task.ignored

-- a failure that isn't ignored
abbrev pub is_failure : TaskResult → Bool
is_failure task = task.failed && not task.ignored

-- how a result counts at a place that is caught or not: a failure that isn't ignored is rescued where a block round its place has it in its body and
-- has a rescue, whatever becomes of that rescue
abbrev pub result_counts : CountKind → Bool → TaskResult → Bool
result_counts Okay is_caught task = went_well task || is_ignored task
result_counts Changed is_caught task = (went_well task || is_ignored task) && task.changed
result_counts Unreachable is_caught task = task.unreachable
result_counts Failed is_caught task = is_failure task && not is_caught
result_counts Skipped is_caught task = task.skipped
result_counts Rescued is_caught task = is_failure task && is_caught
result_counts Ignored is_caught task = is_ignored task

-- a task of `meta` counts only where its conditions can't be read, so that it failed
abbrev pub counts_at_all : TaskEnd → Bool
counts_at_all task = is_none task.meta || task.result.failed

-- how a finished task counts
abbrev pub counts_under : CountKind → TaskEnd → Bool
counts_under kind task = counts_at_all task && result_counts kind task.is_caught task.result

-- 1 where a task was finished that is of the host h and counts under this kind, else 0
abbrev pub counted : ℕ → CountKind → Option FinishedTask → ℕ
counted h kind None = 0
counted h kind (Some task) = if task.host == h && counts_under kind task.task then 1 else 0

-- how many tasks of a host that events finish, from a state on, count under a kind
abbrev pub count_from : PlanOf → State → List Event → ℕ → CountKind → ℕ
count_from plan s [] h kind = 0
count_from plan s (e ∷ es) h kind = counted h kind (finishes plan s e) + count_from plan (after plan s e) es h kind

-- the same under each kind
abbrev pub counts_from : PlanOf → State → List Event → ℕ → Counts
counts_from plan s trail h =
    record {
      ok = count_from plan s trail h Okay;
      changed = count_from plan s trail h Changed;
      unreachable = count_from plan s trail h Unreachable;
      failed = count_from plan s trail h Failed;
      skipped = count_from plan s trail h Skipped;
      rescued = count_from plan s trail h Rescued;
      ignored = count_from plan s trail h Ignored;
    }

-- of these hosts, whose first has the number h
abbrev pub hosts_from : PlanOf → State → List Event → ℕ → List (List ℕ) → List Counts
hosts_from plan s trail h [] = []
hosts_from plan s trail h (host ∷ hosts) = counts_from plan s trail h ∷ hosts_from plan s trail (h + 1) hosts

-- of all hosts, over the events of a whole run
abbrev pub recap : PlanOf → ℕ → List Event → List Counts
recap plan pool trail = hosts_from plan (first_state plan plan.forks pool) trail 0 plan.inventory.hosts
