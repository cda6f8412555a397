-- The items of a task as it starts on a host: one for each value of its loop, or a single one. Of each its conditions are read first, then
-- its module, then its delegate, in the scope that the host has then; nothing later changes what is sent for it. And what an attempt at an item comes
-- to, once its job came back.
-- See Ansible's documentation, "Loops", "Conditionals", "Error handling in playbooks", "Controlling where tasks run", and "Retrying a task until a
-- condition is met".
use Rattle.std.specs.Prelude.{ℕ, nat_lt, Bool, true, false, List, [], ◌∷◌, map, Option, Some, None, Result, Ok, Err}
use Rattle.pb_value.specs.Datum.{Datum, text}
use Rattle.pb_value.specs.Reading.{and_then, map_ok}
use Rattle.pb_layers.specs.Scope.{Map, scope}
use Rattle.pb_expr_syntax.specs.Tree.{Tree}
use Rattle.pb_expr_eval.specs.Scoped.{rendered_of}
use Rattle.pb_conditions.specs.Attempts.{attempted}
use Rattle.pb_conditions.specs.Conditions.{holds}
use Rattle.pb_conditions.specs.ResultConditions.{sees, with_conditions}
use Rattle.pb_conditions.specs.declared.attempt.Back.{Back}
use Rattle.pb_conditions.specs.declared.attempt.Back.TheVariants.{Ends}
use Rattle.pb_outcome.specs.Decided.{faulty_result}
use Rattle.pb_outcome.specs.declared.gather.ItemResult.{ItemResult}
use Rattle.pb_outcome.specs.declared.item.Item.{Item}
use Rattle.pb_outcome.specs.declared.item.Planned.{Planned}
use Rattle.pb_outcome.specs.declared.item.Planned.TheVariants.{Decided, Sends}
use Rattle.pb_play.specs.declared.loops.Loop.{Loop}
use Rattle.pb_play.specs.declared.retrying.Retrying.{Retrying}
use Rattle.pb_play.specs.declared.task.Task.{Task}
use Rattle.pb_items.specs.declared.fault.ItemFault.{ItemFault}
use Rattle.pb_items.specs.declared.fault.ItemFault.TheVariants.{BadDelegate}
use Rattle.pb_items.specs.Faults.{said, evaluated}
use Rattle.pb_items.specs.Loops.{loop_variable, values_of}
use Rattle.pb_items.specs.Planning.{done_by}
use Rattle.pb_items.specs.Results.{skipped_result}

-- what the items of a task on a host are read from
pub record StartOf : Type 0 where
  pub task : Task
  -- those of the role, of the outer blocks, of the inner blocks, and the task's own
  pub conditions : List Tree
  -- the template of the name of the host that runs it in place of the host itself
  pub delegate_to : Option (List ℕ)
  pub has_facts_program : Bool
  -- the variables that the task sees on the host
  pub layers : List Map
  pub magic : Map

-- what an item with this loop variable sees
abbrev pub seen_by : StartOf → Map → List Map
seen_by start variable = scope start.layers start.magic variable

-- to whom an item is delegated: to a text that isn't empty
abbrev pub delegate_named : Datum → Result (Option (List ℕ)) ItemFault
delegate_named (text (b ∷ name)) = Ok (Some (b ∷ name))
delegate_named other = Err BadDelegate

-- to whom an item is delegated, by this template of a name; without one it is delegated to no host
abbrev pub delegate_in : List Map → Option (List ℕ) → Result (Option (List ℕ)) ItemFault
delegate_in scope None = Ok None
delegate_in scope (Some template) = and_then (evaluated (rendered_of scope (text template))) delegate_named

-- what is decided at once is what the task says of it
abbrev pub with_conditions_of : StartOf → Map → ItemResult → ItemResult
with_conditions_of start variable item = with_conditions (sees start.layers start.magic variable) start.task.register start.task.changed_when start.task.failed_when item

-- What an attempt comes to whose job came back. They are numbered from 1. There is one alone unless the task is tried again; else the last one is that
-- which as many attempts lie before as may follow the first.
abbrev pub attempted_by : Option Retrying → StartOf → Map → ℕ → ItemResult → Back
attempted_by None start variable attempt item = Ends (with_conditions_of start variable item)
attempted_by (Some retrying) start variable attempt item =
    attempted (sees start.layers start.magic variable) start.task.register start.task.changed_when start.task.failed_when retrying.until attempt (nat_lt retrying.retries attempt) item

-- of an item with this value of the loop variable
abbrev pub attempted_item : StartOf → Option Datum → ℕ → ItemResult → Back
attempted_item start value attempt item = attempted_by start.task.retrying start (loop_variable start.task.looped value) attempt item

-- what is sent as a job stays as it is, until that comes back
abbrev pub with_conditions_step : StartOf → Map → Planned → Planned
with_conditions_step start variable (Decided item) = Decided (with_conditions_of start variable item)
with_conditions_step start variable (Sends call) = Sends call

-- what an item does, and the host that it is delegated to
abbrev pub Step : Type 0
Step = Planned × Option (List ℕ)

-- the step of an item whose conditions hold, or the first fault: that of its module comes before that of its delegate
abbrev pub step_of : StartOf → Map → Result Step ItemFault
step_of start variable =
    and_then (done_by start.has_facts_program (seen_by start variable) start.task.module)
    (λ done. map_ok (λ delegate. (with_conditions_step start variable done, delegate)) (delegate_in (seen_by start variable) start.delegate_to))

-- where its conditions hold
abbrev pub step_if : StartOf → Map → Bool → Result Step ItemFault
step_if start variable true = step_of start variable
step_if start variable false = Ok (Decided skipped_result, None)

-- the step of an item, or its first fault: where its conditions don't hold it is skipped, and delegated to no host
abbrev pub step_in : StartOf → Map → Result Step ItemFault
step_in start variable = and_then (evaluated (holds (seen_by start variable) start.conditions)) (step_if start variable)

-- an item of this value of the loop variable
abbrev pub faulty_item : Option Datum → ItemFault → Item
faulty_item value fault = record { value = value; delegate = None; tried = 0; step = Decided (faulty_result (said fault)) }

-- an item of this value with this step, of which no attempt came back yet; a fault makes it a faulty one
abbrev pub item_of : Option Datum → Result Step ItemFault → Item
item_of value (Ok step) = record { value = value; delegate = step.1; tried = 0; step = step.0 }
item_of value (Err fault) = faulty_item value fault

unfoldable pub item_in : StartOf → Option Datum → Item
item_in start value = item_of value (step_in start (loop_variable start.task.looped value))

-- a loop that can't be read is one faulty item of no loop
abbrev pub looped_items : (Option Datum → Item) → Result (List Datum) ItemFault → List Item
looped_items item (Ok values) = map (λ value. item (Some value)) values
looped_items item (Err fault) = faulty_item None fault ∷ []

-- a task without a loop has one item, which has no value
abbrev pub items_by : StartOf → Option Loop → List Item
items_by start None = item_in start None ∷ []
items_by start (Some looped) = looped_items (item_in start) (values_of (seen_by start []) looped.over)

unfoldable pub items_of : StartOf → List Item
items_of start = items_by start start.task.looped
