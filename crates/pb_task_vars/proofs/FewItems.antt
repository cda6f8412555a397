-- A task has few items, wherever it starts.
use Rattle.std.proofs.Common.{ℕ, ◌≤◌, length, arith}
use Rattle.std.specs.Prelude.{Option, Some, None, ◌∷◌, []}
use Rattle.std.specs.Option.{option_map_or}
use Rattle.pb_items.specs.Loops.{max_items}
use Rattle.pb_items.proofs.Few.{few}
use Rattle.pb_facts.specs.Facts.{FactsOf}
use Rattle.pb_outcome.specs.declared.item.Planned.TheVariants.{Decided}
use Rattle.pb_places.specs.Place.{PlaceOf}
use Rattle.pb_plan.specs.Plan.{PlayOf, PlanOf}
use Rattle.pb_task_vars.specs.Results.{nothing, start_of, place_for, items_for, items_at}

few_at : (plan : PlanOf) (play : PlayOf) (h : ℕ) (facts : FactsOf) (found : Option PlaceOf)
    → length (option_map_or (items_for plan play h facts) found (record { value = None; delegate = None; tried = 0; step = Decided nothing } ∷ [])) ≤ max_items
few_at plan play h facts None = omega arith
few_at plan play h facts (Some place) = few (start_of plan play h facts place)

pub few_items : (plan : PlanOf) (play : PlayOf) (h : ℕ) (facts : FactsOf) (p : ℕ) → length (items_at plan play h facts p) ≤ max_items
unfolding items_at
few_items plan play h facts p = few_at plan play h facts (place_for plan play h p)
