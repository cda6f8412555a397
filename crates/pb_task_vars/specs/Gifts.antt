-- What a task that went well gives to other hosts than the one that started it: where facts are delegated, those of an item go to the host that it is
-- delegated to. A name that is no host's is given nothing (Ansible's documentation, "Controlling where tasks run", "Delegating facts").
use Rattle.std.specs.Prelude.{ℕ, ◌==◌, Bool, ◌&&◌, not, List, [], ◌∷◌, Option, Some, None, slice_get, if◌then◌else◌}
use Rattle.std.specs.Option.{option_map_or}
use Rattle.pb_inventory.specs.InventoryOf.{InventoryOf}
use Rattle.pb_layers.specs.Scope.{Map}
use Rattle.pb_facts.specs.declared.facts.Gives.{Gives}
use Rattle.pb_facts.specs.Facts.{facts_in}
use Rattle.pb_outcome.specs.declared.gather.TaskResult.{TaskResult}
use Rattle.pb_outcome.specs.declared.item.Item.{Item}
use Rattle.pb_outcome.specs.declared.item.Planned.{Planned}
use Rattle.pb_outcome.specs.declared.item.Planned.TheVariants.{Decided, Sends}
use Rattle.pb_places.specs.Place.{PlaceOf}
use Rattle.pb_plan.specs.Plan.{PlayOf}
use Rattle.pb_task_vars.specs.Delegates.{delegate_of}
use Rattle.pb_task_vars.specs.Ends.{has_run}
use Rattle.pb_task_vars.specs.Learning.{gives_of}
use Rattle.pb_task_vars.specs.declared.gifts.DelegatedFacts.{DelegatedFacts}

-- the facts in an item's result
abbrev pub facts_of : Planned → Option Map
facts_of (Decided result) = facts_in result.result
facts_of (Sends call) = None

-- these facts go to that host, unless it is the one that started the task, with which they stay
abbrev pub gift_then : ℕ → Gives → Option ℕ → Option Map → List DelegatedFacts → List DelegatedFacts
gift_then host gives None facts rest = rest
gift_then host gives (Some h) None rest = rest
gift_then host gives (Some h) (Some facts) rest = if h == host then rest else record { host = record { 0 = h }; gives = gives; facts = facts } ∷ rest

-- what these items give, in their order
abbrev pub gifts_of : InventoryOf → ℕ → Gives → List Item → List DelegatedFacts
gifts_of inventory host gives [] = []
gifts_of inventory host gives (item ∷ items) = gift_then host gives (delegate_of inventory item) (facts_of item.step) (gifts_of inventory host gives items)

-- a task gives something where its facts are delegated, and it went well
abbrev pub gives_away : PlaceOf → TaskResult → Bool
gives_away place task = place.delegate_facts && has_run task && not task.unreachable

-- what the task at this place gives to other hosts, once it ended so with these items on the host with this number
abbrev pub gifts_from : InventoryOf → ℕ → TaskResult → List Item → PlaceOf → List DelegatedFacts
gifts_from inventory host task items place = if gives_away place task then gifts_of inventory host (gives_of place.task.«module») items else []

-- what the task at a place gives, that ended so on a host with these items
unfoldable pub given_by : InventoryOf → PlayOf → ℕ → ℕ → TaskResult → List Item → List DelegatedFacts
given_by inventory play p host task items = option_map_or (gifts_from inventory host task items) (slice_get play.places p) []
