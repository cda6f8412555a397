-- What a task that didn't go well may leave with its host: nothing but its result, under the name that it registers
-- (Ansible's documentation, "Using variables", "Registering variables").
use Rattle.std.specs.Prelude.{◌≡◌, ℕ, false, List, Option, None, slice_get, if◌then◌else◌}
use Rattle.std.specs.Option.{option_map_or}
use Rattle.pb_value.specs.Datum.{Datum}
use Rattle.pb_inventory.specs.InventoryOf.{InventoryOf}
use Rattle.pb_facts.specs.Facts.{FactsOf, with_registered}
use Rattle.pb_outcome.specs.declared.gather.TaskResult.{TaskResult}
use Rattle.pb_outcome.specs.declared.item.Item.{Item}
use Rattle.pb_places.specs.Place.{PlaceOf}
use Rattle.pb_plan.specs.Plan.{PlayOf}
use Rattle.pb_task_vars.specs.Ends.{has_run}
use Rattle.pb_task_vars.specs.Learning.{facts_after_end}

-- the name under which the task at a place registers its result, if it has one
abbrev pub register_at : PlayOf → ℕ → Option (List ℕ)
register_at play p = option_map_or (λ (place : PlaceOf). place.task.register) (slice_get play.places p) None

-- whatever the task is and whatever its items came to, where it failed or was left out
abbrev pub OnlyGoodTasksTeach : Type 0
OnlyGoodTasksTeach =
    (inventory : InventoryOf) (play : PlayOf) (p : ℕ) (starter : Option ℕ) (task : TaskResult) (result : Datum) (items : List Item) (facts : FactsOf) →
    has_run task ≡ false →
    facts_after_end inventory play p starter task result items facts ≡ (if task.unreachable then facts else with_registered (register_at play p) result facts)
