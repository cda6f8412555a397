-- A task that registers nothing and gives no facts teaches nobody: what it gives to other hosts changes none of them.
use Rattle.std.proofs.Common.{◌≡◌, ◌∙◌, ℕ, Bool, true, false, ◌&&◌, not, List, [], ◌∷◌, Option, Some, None, slice_get, refl}
use Rattle.std.specs.Prelude.{◌==◌, if◌then◌else◌}
use Rattle.std.specs.Option.{option_map_or}
use Rattle.pb_inventory.specs.InventoryOf.{InventoryOf}
use Rattle.pb_layers.specs.Scope.{Map}
use Rattle.pb_facts.specs.declared.facts.Gives.{Gives}
use Rattle.pb_facts.specs.declared.facts.Gives.TheVariants.{Nothing, Sets, Gathers}
use Rattle.pb_outcome.specs.declared.gather.TaskResult.{TaskResult}
use Rattle.pb_outcome.specs.declared.item.Item.{Item}
use Rattle.pb_outcome.specs.declared.outcome.Form.{Form}
use Rattle.pb_outcome.specs.Items.{is_over}
use Rattle.pb_places.specs.Place.{PlaceOf}
use Rattle.pb_plan.specs.Plan.{PlayOf, PlanOf}
use Rattle.pb_task_vars.specs.Delegates.{delegate_of}
use Rattle.pb_task_vars.specs.Ends.{has_run}
use Rattle.pb_task_vars.specs.Gifts.{facts_of, gift_then, gifts_from, gifts_of as gifts_with, given_by}
use Rattle.pb_task_vars.specs.Learning.{gives_of}
use Rattle.pb_task_vars.specs.declared.gifts.DelegatedFacts.{DelegatedFacts}
use Rattle.pb_host.specs.declared.host.Running.{Running}
use Rattle.pb_host.specs.Host.{HostOf, items_after, task_at}
use Rattle.pb_hosts.specs.Hosts.{change}
use Rattle.pb_hosts.specs.Giving.{with_delegated, gifts_at, gifts_by, takes}
use Rattle.pb_hosts.proofs.Giving.{map_same}
use Rattle.pb_state.specs.Machine.{learnt_by}
use Rattle.pb_state.specs.Known.{gives_nothing}

abbrev pub gives_nothing_in : PlaceOf → Bool
gives_nothing_in place = gives_nothing (gives_of place.task.«module»)

abbrev pub gives_nothing_at : PlayOf → ℕ → Bool
gives_nothing_at play p = option_map_or gives_nothing_in (slice_get play.places p) true

-- gifts that are no facts
then_same : (host : ℕ) (to : Option ℕ) (facts : Option Map) (rest : List DelegatedFacts) → ((rows : List HostOf) → learnt_by (with_delegated rest rows) ≡ learnt_by rows)
    → (rows : List HostOf) → learnt_by (with_delegated (gift_then host Nothing to facts rest) rows) ≡ learnt_by rows
then_same host None facts rest same rows = same rows
then_same host (Some h) None rest same rows = same rows
then_same host (Some h) (Some facts) rest same rows = by_host (h == host)
  where
    gift : DelegatedFacts
    gift = record { host = record { 0 = h }; gives = Nothing; facts = facts }

    by_host : (own : Bool) → learnt_by (with_delegated (if own then rest else gift ∷ rest) rows) ≡ learnt_by rows
    by_host true = same rows
    by_host false = same (change rows h (takes gift)) ∙ map_same (λ (row : HostOf). row.facts) (takes gift) (λ (row : HostOf). refl) rows h

nothing_same : (inventory : InventoryOf) (host : ℕ) (items : List Item) (rows : List HostOf) → learnt_by (with_delegated (gifts_with inventory host Nothing items) rows) ≡ learnt_by rows
nothing_same inventory host [] rows = refl
nothing_same inventory host (item ∷ items) rows =
    then_same host (delegate_of inventory item) (facts_of item.step) (gifts_with inventory host Nothing items) (nothing_same inventory host items) rows

from_same : (inventory : InventoryOf) (h : ℕ) (items : List Item) (away run there : Bool) (gives : Gives) → gives_nothing gives ≡ true
    → (rows : List HostOf) → learnt_by (with_delegated (if away && run && there then gifts_with inventory h gives items else []) rows) ≡ learnt_by rows
from_same inventory h items away run there Nothing e rows = by_giving (away && run && there)
  where
    by_giving : (giving : Bool) → learnt_by (with_delegated (if giving then gifts_with inventory h Nothing items else []) rows) ≡ learnt_by rows
    by_giving true = nothing_same inventory h items rows
    by_giving false = refl
from_same inventory h items away run there Sets e rows = cc
from_same inventory h items away run there Gathers e rows = cc

given_same : (inventory : InventoryOf) (play : PlayOf) (p h : ℕ) (task : TaskResult) (items : List Item) → gives_nothing_at play p ≡ true
    → (rows : List HostOf) → learnt_by (with_delegated (given_by inventory play p h task items) rows) ≡ learnt_by rows
unfolding given_by
given_same inventory play p h task items e rows = by_place (slice_get play.places p) e
  where
    by_place : (found : Option PlaceOf) → option_map_or gives_nothing_in found true ≡ true → learnt_by (with_delegated (option_map_or (gifts_from inventory h task items) found []) rows) ≡ learnt_by rows
    by_place None e = refl
    by_place (Some place) e = from_same inventory h items place.delegate_facts (has_run task) (not task.unreachable) (gives_of place.task.«module») e rows

pub gifts_same : (inventory : InventoryOf) (play : PlayOf) (p h : ℕ) (items : List Item) → gives_nothing_at play p ≡ true
    → (rows : List HostOf) → learnt_by (with_delegated (gifts_at inventory play p h items) rows) ≡ learnt_by rows
gifts_same inventory play p h items e rows = by_over (is_over items)
  where
    by_over : (b : Bool) → learnt_by (with_delegated (if b then given_by inventory play p h (task_at play p items).result items else []) rows) ≡ learnt_by rows
    by_over true = given_same inventory play p h (task_at play p items).result items e rows
    by_over false = refl

-- the place of the task that a host runs
abbrev pub run_place : Option Running → Option ℕ
run_place running = option_map_or (λ (r : Running). Some r.place) running None

pub report_same : (plan : PlanOf) (play : PlayOf) (outcome : Form) (h : ℕ) (row : HostOf) (running : Option Running) → option_map_or (gives_nothing_at play) (run_place running) true ≡ true
    → (rows : List HostOf) → learnt_by (with_delegated (option_map_or (gifts_by plan play outcome h row) running []) rows) ≡ learnt_by rows
report_same plan play outcome h row None e rows = refl
report_same plan play outcome h row (Some r) e rows = gifts_same plan.inventory play r.place h (items_after plan play row.host row.facts outcome r) e rows
