-- What a step comes to for the task that a host runs, and of the items of it that ended.
use Rattle.std.specs.Prelude.{ℕ, nat_lt, Bool, false, List, [], ◌∷◌, Option, Some, None, option_map, slice_get, if◌then◌else◌}
use Rattle.std.specs.Option.{option_map_or}
use Rattle.pb_conditions.specs.declared.attempt.Back.{Back}
use Rattle.pb_conditions.specs.declared.attempt.Back.TheVariants.{Ends, Again}
use Rattle.pb_facts.specs.Facts.{FactsOf}
use Rattle.pb_outcome.specs.declared.gather.ItemResult.{ItemResult}
use Rattle.pb_outcome.specs.declared.item.Item.{Item}
use Rattle.pb_outcome.specs.declared.item.Planned.{Planned}
use Rattle.pb_outcome.specs.declared.item.Planned.TheVariants.{Decided, Sends}
use Rattle.pb_outcome.specs.declared.job.Call.{Call}
use Rattle.pb_outcome.specs.declared.outcome.Form.{Form}
use Rattle.pb_outcome.specs.Items.{next_item, is_over, numbered_at, result_of}
use Rattle.pb_task_vars.specs.Results.{variable_at}
use Rattle.pb_task_vars.specs.FromPlan.{PlayOf, PlanOf}
use Rattle.pb_host.specs.declared.host.Running.{Running}
use Rattle.pb_host.specs.declared.step_result.StepResult.{StepResult}
use Rattle.pb_host.specs.declared.step_result.TaskDone.{TaskDone}
use Rattle.pb_host.specs.declared.step_result.Retried.{Retried}
use Rattle.pb_host.specs.Attempts.{attempt_after}
use Rattle.pb_host.specs.Host.{HostOf, pending, task_at, came_back, items_after}
use Rattle.pb_host.specs.Handlers.{newly_at}

-- how the task at a place ended, if these items end it, on a host with these marks, and what is shown of it: of the handlers that it notified those
-- that weren't pending
abbrev pub done_at : PlayOf → ℕ → List Bool → List Item → TaskDone
done_at play p marks items =
    record { result = result_of (variable_at play p) items; task = task_at play p items; notified = newly_at play p marks (task_at play p items) }

-- none where the task isn't over with these items
abbrev pub done_if : PlayOf → ℕ → List Bool → List Item → Option TaskDone
done_if play p marks items = if is_over items then Some (done_at play p marks items) else None

-- what a step came to for the task at a place on a host with these marks: the items that ended in it, and how the task ended
abbrev pub step_result_with : PlayOf → ℕ → List Bool → Bool → List (ℕ × ItemResult) → List Item → StepResult
step_result_with play p marks is_new results items = record { place = p; is_new = is_new; items = results; retried = None; done = done_if play p marks items }

-- the item that came back, with its number, where its task has a loop
abbrev pub item_results_at : List Item → ℕ → List (ℕ × ItemResult)
item_results_at items n = numbered_at n (slice_get items n)

-- nothing where no item came back, or where it waits for its next attempt
abbrev pub item_results_in : List Item → Option ℕ → List (ℕ × ItemResult)
item_results_in items number = option_map_or (item_results_at items) number []

-- an attempt at an item that came to this, if another one comes behind it
abbrev pub retried_by : Back → Item → Option Retried
retried_by (Ends result) item = None
retried_by (Again result) item = if nat_lt item.tried 100 then Some (record { attempt = attempt_after item.tried; result = result.result }) else None

-- that at the first item that waits
abbrev pub retried_then : (Item → Call → Back) → Item → Option Retried → Planned → Option Retried
retried_then judge item rest (Decided result) = rest
retried_then judge item rest (Sends call) = retried_by (judge item call) item

-- none where no item waits
abbrev pub retried_in : (Item → Call → Back) → List Item → Option Retried
retried_in judge [] = None
retried_in judge (item ∷ items) = retried_then judge item (retried_in judge items) item.step

-- the attempt whose job is out, once it came to this, if another one comes behind it
abbrev pub retried_after : PlanOf → PlayOf → ℕ → FactsOf → Form → Running → Option Retried
retried_after plan play host facts outcome r = retried_in (came_back plan play host facts r.place outcome) r.items

-- what a step came to where this attempt came back in it
abbrev pub with_retried : Option Retried → StepResult → StepResult
with_retried retried step_result = record step_result { retried = retried }

-- what a report comes to for the task that waited for it
abbrev pub step_result_by : PlanOf → PlayOf → Form → HostOf → Running → StepResult
step_result_by plan play outcome row r =
    with_retried (retried_after plan play row.host row.facts outcome r)
    (step_result_with play r.place (pending row) false (item_results_in (items_after plan play row.host row.facts outcome r) (next_item r.items))
    (items_after plan play row.host row.facts outcome r))

-- none where the host runs nothing
abbrev pub report_result : PlanOf → PlayOf → Form → HostOf → Option StepResult
report_result plan play outcome row = option_map (step_result_by plan play outcome row) row.running
