-- What holds of a task that doesn't read `hostvars`: where there is none, nothing has to hold.
use Rattle.std.specs.Prelude.{◌≡◌, ⊤, ℕ, false, Option, Some, None, codes}
use Rattle.pb_value.specs.Datum.{Datum}
use Rattle.pb_facts.specs.Facts.{FactsOf}
use Rattle.pb_items.specs.Items.{items_of, attempted_item}
use Rattle.pb_layers.specs.Scope.{Map}
use Rattle.pb_outcome.specs.declared.gather.ItemResult.{ItemResult}
use Rattle.pb_places.specs.Place.{PlaceOf}
use Rattle.pb_plan.specs.Plan.{PlayOf, PlanOf}
use Rattle.pb_reach.specs.Apart.{SameBut}
use Rattle.pb_reach.specs.Reach.{layers_mention}
use Rattle.pb_task_vars.specs.Results.{start_with, layers_within}

-- the word stands in no text of the variables that it sees, but for what its host has learnt
abbrev pub IsFreeOfHostvars : PlanOf → PlayOf → ℕ → FactsOf → Option PlaceOf → Type 0
IsFreeOfHostvars plan play h facts None = ⊤
IsFreeOfHostvars plan play h facts (Some place) = layers_mention (codes "hostvars") (layers_within plan play h facts place.role place.block_vars place.task.vars) ≡ false

-- it has the same items, whatever stands for it
abbrev pub ItemsUnread : PlanOf → PlayOf → ℕ → FactsOf → Option PlaceOf → Type 0
ItemsUnread plan play h facts None = ⊤
ItemsUnread plan play h facts (Some place) =
    (one other : Map) → SameBut (codes "hostvars") one other →
    items_of (start_with plan.has_facts_program place (layers_within plan play h facts place.role place.block_vars place.task.vars) one)
    ≡ items_of (start_with plan.has_facts_program place (layers_within plan play h facts place.role place.block_vars place.task.vars) other)

-- and each attempt at an item of it comes to the same
abbrev pub AttemptsUnread : PlanOf → PlayOf → ℕ → FactsOf → Option PlaceOf → Type 0
AttemptsUnread plan play h facts None = ⊤
AttemptsUnread plan play h facts (Some place) =
    (one other : Map) (value : Option Datum) (attempt : ℕ) (item : ItemResult) → SameBut (codes "hostvars") one other →
    attempted_item (start_with plan.has_facts_program place (layers_within plan play h facts place.role place.block_vars place.task.vars) one) value attempt item
    ≡ attempted_item (start_with plan.has_facts_program place (layers_within plan play h facts place.role place.block_vars place.task.vars) other) value attempt item
