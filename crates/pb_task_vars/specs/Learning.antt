-- What a task that ended leaves with its host: its result under the name that it registers, and then, where it went well, the facts of its
-- items, but for those that are delegated to another host where facts are, too. A task that failed, be that ignored or not, or that was left out gives no facts, and one that found its host out of reach leaves nothing
-- (Ansible's documentation, "Using variables", "Registering variables", and "Discovering variables: facts and magic variables").
use Rattle.std.specs.Prelude.{ℕ, Bool, true, false, List, Option, slice_get, if◌then◌else◌}
use Rattle.std.specs.Option.{option_map_or}
use Rattle.pb_value.specs.Datum.{Datum}
use Rattle.pb_inventory.specs.InventoryOf.{InventoryOf}
use Rattle.pb_facts.specs.declared.facts.Gives.{Gives}
use Rattle.pb_facts.specs.declared.facts.Gives.TheVariants.{Nothing, Sets, Gathers}
use Rattle.pb_facts.specs.Facts.{FactsOf, learnt}
use Rattle.pb_outcome.specs.declared.gather.TaskResult.{TaskResult}
use Rattle.pb_outcome.specs.declared.item.Item.{Item}
use Rattle.pb_places.specs.Place.{PlaceOf}
use Rattle.pb_play.specs.declared.modules.Module.{Module}
use Rattle.pb_play.specs.declared.modules.Module.TheVariants.{SetFact, Setup}
use Rattle.pb_play.specs.declared.task.Task.{Task}
use Rattle.pb_plan.specs.Plan.{PlayOf}
use Rattle.pb_task_vars.specs.Delegates.{kept}
use Rattle.pb_task_vars.specs.Ends.{has_run}

-- what a module gives beside its result
abbrev pub gives_of : Module → Gives
gives_of (SetFact facts) = Sets
gives_of Setup = Gathers
gives_of other = Nothing

-- what a task gives beside its result: what its module gives, where it went well
abbrev pub gives_if : Bool → Module → Gives
gives_if true called = gives_of called
gives_if false called = Nothing

-- what a host knows once a task ended with this result: the facts of these items are among it where the task went well
abbrev pub learns : Datum → Bool → List Item → FactsOf → Task → FactsOf
learns result went_well items facts task = learnt (gives_if went_well task.«module») task.register result items facts

-- the same of the task at a place, but for the facts of items that go to other hosts
abbrev pub learns_at : InventoryOf → Option ℕ → Datum → Bool → List Item → FactsOf → PlaceOf → FactsOf
learns_at inventory starter result went_well items facts place = learns result went_well (kept inventory starter place.delegate_facts items) facts place.task

-- what a host knows once the task at a place ended so, with this result: the host that started it, or none, where another one gets what was done for all
unfoldable pub facts_after_end : InventoryOf → PlayOf → ℕ → (starter : Option ℕ) → TaskResult → Datum → List Item → FactsOf → FactsOf
facts_after_end inventory play p starter task result items facts =
    if task.unreachable then facts else option_map_or (learns_at inventory starter result (has_run task) items facts) (slice_get play.places p) facts
