-- The counts after one event more.
use Rattle.std.specs.Prelude.{ℕ, ◌<◌, ◌-◌, ◌^◌, List, Option, Some, None, option_map, slice_get, slice_set}
use Rattle.std.specs.Option.{option_map_or}
use Rattle.pb_host.specs.declared.step_result.StepResult.{StepResult}
use Rattle.pb_host.specs.declared.step_result.TaskDone.{TaskDone}
use Rattle.pb_host.specs.declared.step_result.TaskEnd.{TaskEnd}
use Rattle.pb_state.specs.declared.event.Event.{Event}
use Rattle.pb_state.specs.declared.event.Event.TheVariants.{Open, Start, Send, Report as Reported, Turn, Close, Stop, Forks}
use Rattle.pb_host.specs.declared.host.Counts.{Counts}
use Rattle.pb_host.specs.Ends.{more}
use Rattle.pb_state.specs.State.{State}
use Rattle.pb_lanes.specs.declared.kind.CountKind.TheVariants.{Okay, Changed, Unreachable, Failed, Skipped, Rescued, Ignored}
use Rattle.pb_recap.specs.Recap.{FinishedTask, counts_under}

-- none of the counts is the largest that a column holds
abbrev pub HasRoom : Counts → Type 0
HasRoom c =
    (c.ok < 2 ^ 32 - 1) × (c.changed < 2 ^ 32 - 1) × (c.unreachable < 2 ^ 32 - 1) × (c.failed < 2 ^ 32 - 1) × (c.skipped < 2 ^ 32 - 1) × (c.rescued < 2 ^ 32 - 1)
    × (c.ignored < 2 ^ 32 - 1)

-- a host's counts with a finished task
abbrev pub with_task : TaskEnd → Counts → Counts
with_task task c =
    record {
      ok = more (counts_under Okay task) c.ok;
      changed = more (counts_under Changed task) c.changed;
      unreachable = more (counts_under Unreachable task) c.unreachable;
      failed = more (counts_under Failed task) c.failed;
      skipped = more (counts_under Skipped task) c.skipped;
      rescued = more (counts_under Rescued task) c.rescued;
      ignored = more (counts_under Ignored task) c.ignored;
    }

-- the counts of all hosts with a finished task; they stay as they are where its host isn't among them
abbrev pub with_task_at : List Counts → FinishedTask → List Counts
with_task_at all finished = option_map_or (λ c. slice_set all finished.host (with_task finished.task c)) (slice_get all finished.host) all

-- the counts of all hosts with the task that was finished, if one was
abbrev pub with_finished : Option FinishedTask → List Counts → List Counts
with_finished finished all = option_map_or (with_task_at all) finished all

-- the host whose task an event may finish
abbrev pub host_of : Event → Option ℕ
host_of Open = None
host_of (Start h) = Some h.0
host_of (Send h item attempt ticket) = None
host_of (Reported r) = Some r.host.0
host_of Turn = None
host_of Close = None
host_of Stop = None
host_of (Forks n) = None

-- how the step that led to a state ended a task
abbrev pub task_done : StepResult → Option TaskEnd
task_done step_result = option_map (λ (d : TaskDone). d.task) step_result.done

-- the same by the state; none where no task ended in that step
abbrev pub task_in : State → Option TaskEnd
task_in s = option_map_or task_done s.step_result None
