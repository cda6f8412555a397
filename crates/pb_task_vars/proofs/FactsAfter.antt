-- A task that didn't go well leaves its result with its host, and nothing else.
use Rattle.std.proofs.Common.{◌≡◌, ◌∙◌, Bool, false, List, Option, Some, None, refl, ap}
use Rattle.std.specs.Prelude.{ℕ, slice_get, if◌then◌else◌}
use Rattle.std.specs.Option.{option_map_or}
use Rattle.pb_value.specs.Datum.{Datum}
use Rattle.pb_inventory.specs.InventoryOf.{InventoryOf}
use Rattle.pb_facts.specs.Facts.{FactsOf, with_registered, given_in}
use Rattle.pb_facts.proofs.Each.{each_nothing}
use Rattle.pb_outcome.specs.declared.item.Item.{Item}
use Rattle.pb_places.specs.Place.{PlaceOf}
use Rattle.pb_task_vars.specs.Delegates.{kept}
use Rattle.pb_task_vars.specs.Learning.{learns_at, facts_after_end}
use Rattle.pb_task_vars.specs.Teaching.{OnlyGoodTasksTeach}

-- what a task that didn't go well leaves at a place that is there, and at one that isn't
at_place : (inventory : InventoryOf) (host : Option ℕ) (result : Datum) (items : List Item) (facts : FactsOf) (place : Option PlaceOf) →
    option_map_or (learns_at inventory host result false items facts) place facts
    ≡ with_registered (option_map_or (λ (at : PlaceOf). at.task.register) place None) result facts
at_place inventory host result items facts None = refl
at_place inventory host result items facts (Some place) = each_nothing (given_in (kept inventory host place.delegate_facts items)) (with_registered place.task.register result facts)

pub only_good_tasks_teach : OnlyGoodTasksTeach
unfolding facts_after_end
only_good_tasks_teach inventory play p host task result items facts e =
    ap (λ (known : FactsOf). if task.unreachable then facts else known)
    (ap (λ (went_well : Bool). option_map_or (learns_at inventory host result went_well items facts) (slice_get play.places p) facts) e
    ∙ at_place inventory host result items facts (slice_get play.places p))
