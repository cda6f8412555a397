-- A report in its parts: an item comes back, and then its task goes on; and how the item is put back where memory is refused on the way.
use Rattle.std.specs.Prelude.{◌≡◌, ⊤, ℕ, Bool, false, ◌||◌, List, [], Option, Some, None, option_map, slice_get}
use Rattle.std.specs.Option.{option_map_or}
use Rattle.pb_value.specs.Datum.{Datum}
use Rattle.pb_conditions.specs.declared.attempt.Back.{Back}
use Rattle.pb_conditions.specs.declared.attempt.Back.TheVariants.{Ends}
use Rattle.pb_inventory.specs.InventoryOf.{InventoryOf}
use Rattle.pb_facts.specs.Facts.{FactsOf}
use Rattle.pb_outcome.specs.declared.gather.ItemResult.{ItemResult}
use Rattle.pb_outcome.specs.declared.item.Item.{Item}
use Rattle.pb_outcome.specs.declared.item.Planned.{Planned}
use Rattle.pb_outcome.specs.declared.outcome.Form.{Form}
use Rattle.pb_task_vars.specs.FromPlan.{PlayOf, PlanOf}
use Rattle.pb_task_vars.specs.Results.{came_at}
use Rattle.pb_host.specs.declared.step_result.StepResult.{StepResult}
use Rattle.pb_host.specs.declared.step_result.TaskDone.{TaskDone}
use Rattle.pb_host.specs.declared.step_result.Retried.{Retried}
use Rattle.pb_host.specs.declared.step_result.TaskEnd.{TaskEnd}
use Rattle.pb_host.specs.declared.items.Before.{Before}
use Rattle.pb_host.specs.declared.host.LastTask.{LastTask}
use Rattle.pb_host.specs.declared.host.Running.{Running}
use Rattle.pb_host.specs.Attempts.{attempt_after}
use Rattle.pb_host.specs.Ends.{breaks, counted, kind_of}
use Rattle.pb_host.specs.Kept.{with_step, with_tried}
use Rattle.pb_host.specs.StepResults.{step_result_with, done_if, retried_after, item_results_in, with_retried}
use Rattle.pb_host.specs.Host.{HostOf, kept_items, pending, items_after, progressed, runs_once_at}

-- what an attempt with this result at the item with this number comes to, as its task says of it
abbrev pub came_in : PlanOf → PlayOf → ℕ → FactsOf → ℕ → List Item → ℕ → ItemResult → Back
came_in plan play host facts p items n result =
    option_map_or (λ (item : Item). came_at plan play host facts p item.value (attempt_after item.tried) result) (slice_get items n) (Ends result)

-- the job that is out of a task came to this
abbrev pub back_running : PlanOf → PlayOf → ℕ → FactsOf → Form → Option Running → Option Running
back_running plan play host facts outcome running = option_map (λ (r : Running). record r { items = items_after plan play host facts outcome r }) running

-- the same in a host's row, before its task goes on or ends; a host that runs nothing stays as it is
abbrev pub back_row : PlanOf → PlayOf → Form → HostOf → HostOf
back_row plan play outcome row = record row { running = back_running plan play row.host row.facts outcome row.running }

-- and that attempt, if another one comes behind it
abbrev pub retried_running : PlanOf → PlayOf → ℕ → FactsOf → Form → Option Running → Option Retried
retried_running plan play host facts outcome running = option_map_or (retried_after plan play host facts outcome) running None

-- the same of a host's row; none where the host runs nothing
abbrev pub retried_row : PlanOf → PlayOf → Form → HostOf → Option Retried
retried_row plan play outcome row = retried_running plan play row.host row.facts outcome row.running

-- the end of the task that a host runs, in its parts
abbrev pub with_running : Option Running → HostOf → HostOf
with_running running row = record row { running = running }

-- the items of the task that a host runs; none where it runs nothing
abbrev pub items_run : Option Running → List Item
items_run running = option_map_or (λ (r : Running). r.items) running []

-- what is kept of the task at a place that ended so; the first argument says whether it runs once, without which no items are kept
abbrev pub finish_of : Bool → ℕ → TaskEnd → Option Running → LastTask
finish_of once place task running = record { place = place; kind = kind_of task; items = kept_items once (items_run running) }

-- the same, where the play says whether its task at that place runs once
abbrev pub finish_run : PlayOf → ℕ → TaskEnd → Option Running → LastTask
finish_run play place task running = finish_of (runs_once_at play place) place task running

-- what the end of a task at a place does to its host's row, but for the answer and the facts; a task that runs once keeps its items
abbrev pub end_recorded : Bool → ℕ → TaskEnd → HostOf → HostOf
end_recorded once place task row =
    record row {
      is_broken = row.is_broken || breaks task.is_caught (kind_of task);
      running = None;
      last = Some (finish_of once place task row.running);
      counts = counted task row.counts;
    }

-- the next item waits to be sent
abbrev pub waiting : HostOf → HostOf
waiting row = record row { running = option_map (λ (r : Running). record r { out = None }) row.running }

-- the task that a host runs goes on, or ends where it is over
abbrev pub went_with : InventoryOf → PlayOf → HostOf → Running → HostOf
went_with inventory play row r = progressed inventory play r.place r.items row

-- so with whatever the host runs; one that runs nothing stays as it is
abbrev pub went_on : InventoryOf → PlayOf → HostOf → HostOf
went_on inventory play row = option_map_or (went_with inventory play row) row.running row

-- how the task that a host runs ended, and what is shown of it; none where it isn't over
abbrev pub ended_with : PlayOf → HostOf → Running → Option TaskDone
ended_with play row r = done_if play r.place (pending row) r.items

-- none where the host runs nothing, too
abbrev pub ended_now : PlayOf → HostOf → Option TaskDone
ended_now play row = option_map_or (ended_with play row) row.running None

-- what a step comes to for it, where the item with this number came back, or this attempt
abbrev pub step_result_back : PlayOf → Option ℕ → Option Retried → HostOf → Running → StepResult
step_result_back play number retried row r = with_retried retried (step_result_with play r.place (pending row) false (item_results_in r.items number) r.items)

-- the same of whatever the host runs; none where it runs nothing
abbrev pub step_result_now : PlayOf → Option ℕ → Option Retried → HostOf → Option StepResult
step_result_now play number retried row = option_map (step_result_back play number retried row) row.running

-- an item as it was: the step is there where it has another one now
abbrev pub undone_by : Before → List Item → List Item
undone_by before items =
    option_map_or (λ (step : Planned). with_step before.number step (with_tried before.number before.tried items)) before.step
    (with_tried before.number before.tried items)

-- the same of a task's items, which stay as they are where nothing was kept of one
abbrev pub undone_items : Option Before → List Item → List Item
undone_items before items = option_map_or (λ (b : Before). undone_by b items) before items

abbrev pub undone_running : Option Before → Option Running → Option Running
undone_running before running = option_map (λ (r : Running). record r { items = undone_items before r.items }) running

-- a host's row, with the item of its task as it was
abbrev pub undone : Option Before → HostOf → HostOf
undone before row = record row { running = undone_running before row.running }

-- two plans in which the task that a host runs says the same of each attempt
abbrev pub SameAttempts : PlanOf → PlanOf → PlayOf → HostOf → Option Running → Type 0
SameAttempts one other play row None = ⊤
SameAttempts one other play row (Some r) =
    (value : Option Datum) (attempt : ℕ) (item : ItemResult) →
    came_at one play row.host row.facts r.place value attempt item ≡ came_at other play row.host row.facts r.place value attempt item
