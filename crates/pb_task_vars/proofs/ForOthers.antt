-- What items give, one after another, and that all of it is for other hosts.
use Rattle.std.proofs.Common.{◌≡◌, ◌≢◌, ℕ, ◌+◌, ◌<◌, Bool, true, false, List, [], ◌∷◌, ◌++◌, length, drop, get_or, refl, sym, ◌∙◌, ap, append_assoc}
use Rattle.std.specs.Prelude.{⊤, Option, Some, None, ◌==◌, slice_get, if◌then◌else◌}
use Rattle.std.specs.Option.{option_map_or}
use Rattle.std.proofs.lemmas.Bool.{eqb-false}
use Rattle.std.proofs.lemmas.List.{drop_more}
use Rattle.pb_inventory.specs.InventoryOf.{InventoryOf}
use Rattle.pb_layers.specs.Scope.{Map}
use Rattle.pb_facts.specs.declared.facts.Gives.{Gives}
use Rattle.pb_outcome.specs.declared.gather.TaskResult.{TaskResult}
use Rattle.pb_outcome.specs.declared.item.Item.{Item}
use Rattle.pb_places.specs.Place.{PlaceOf}
use Rattle.pb_plan.specs.Plan.{PlayOf}
use Rattle.pb_task_vars.specs.Delegates.{delegate_of}
use Rattle.pb_task_vars.specs.Gifts.{facts_of, gift_then, gifts_of, gives_away, gifts_from, given_by}
use Rattle.pb_task_vars.specs.Learning.{gives_of}
use Rattle.pb_task_vars.specs.declared.gifts.DelegatedFacts.{DelegatedFacts}

then_rest : (host : ℕ) (gives : Gives) (to : Option ℕ) (facts : Option Map) (rest : List DelegatedFacts) → gift_then host gives to facts rest ≡ gift_then host gives to facts [] ++ rest
then_rest host gives None facts rest = refl
then_rest host gives (Some h) None rest = refl
then_rest host gives (Some h) (Some facts) rest = by_own (h == host)
  where
    by_own : (own : Bool) → (if own then rest else record { host = record { 0 = h }; gives = gives; facts = facts } ∷ rest) ≡ (if own then [] else record { host = record { 0 = h }; gives = gives; facts = facts } ∷ []) ++ rest
    by_own true = refl
    by_own false = refl

-- one item more
pub gifts_more : (inventory : InventoryOf) (host : ℕ) (gives : Gives) (items : List Item) (gifts new : List DelegatedFacts) (n : ℕ) (item : Item) → n < length items → item ≡ get_or items n item
    → gifts_of inventory host gives items ≡ gifts ++ gifts_of inventory host gives (drop n items) → new ≡ gifts ++ gift_then host gives (delegate_of inventory item) (facts_of item.step) []
    → gifts_of inventory host gives items ≡ new ++ gifts_of inventory host gives (drop (n + 1) items)
gifts_more inventory host gives items gifts new n item inside at so_far now =
    so_far
    ∙ ap (λ (rest : List Item). gifts ++ gifts_of inventory host gives rest) (drop_more items n item inside ∙ ap (λ (x : Item). x ∷ drop (n + 1) items) (sym at))
    ∙ ap (λ (rest : List DelegatedFacts). gifts ++ rest) (then_rest host gives (delegate_of inventory item) (facts_of item.step) (gifts_of inventory host gives (drop (n + 1) items)))
    ∙ sym (append_assoc gifts (gift_then host gives (delegate_of inventory item) (facts_of item.step) []) (gifts_of inventory host gives (drop (n + 1) items)))
    ∙ ap (λ (g : List DelegatedFacts). g ++ gifts_of inventory host gives (drop (n + 1) items)) (sym now)

-- ---- all of it is for other hosts
abbrev pub AreForOthers : ℕ → List DelegatedFacts → Type 0
AreForOthers host [] = ⊤
AreForOthers host (gift ∷ gifts) = (gift.host.0 ≢ host) × AreForOthers host gifts

then_others : (host : ℕ) (gives : Gives) (to : Option ℕ) (facts : Option Map) (rest : List DelegatedFacts) → AreForOthers host rest → AreForOthers host (gift_then host gives to facts rest)
then_others host gives None facts rest all = all
then_others host gives (Some h) None rest all = all
then_others host gives (Some h) (Some facts) rest all = by_own (h == host) refl
  where
    by_own : (own : Bool) → (h == host) ≡ own → AreForOthers host (if own then rest else record { host = record { 0 = h }; gives = gives; facts = facts } ∷ rest)
    by_own true e = all
    by_own false e = (eqb-false h host e, all)

each_for_others : (inventory : InventoryOf) (host : ℕ) (gives : Gives) (items : List Item) → AreForOthers host (gifts_of inventory host gives items)
each_for_others inventory host gives [] = tt
each_for_others inventory host gives (item ∷ items) =
    then_others host gives (delegate_of inventory item) (facts_of item.step) (gifts_of inventory host gives items) (each_for_others inventory host gives items)

from_place : (inventory : InventoryOf) (host : ℕ) (task : TaskResult) (items : List Item) (place : Option PlaceOf) → AreForOthers host (option_map_or (gifts_from inventory host task items) place [])
from_place inventory host task items None = tt
from_place inventory host task items (Some place) = by_giving (gives_away place task)
  where
    by_giving : (gives : Bool) → AreForOthers host (if gives then gifts_of inventory host (gives_of place.task.«module») items else [])
    by_giving true = each_for_others inventory host (gives_of place.task.«module») items
    by_giving false = tt

pub all_for_others : (inventory : InventoryOf) (play : PlayOf) (p host : ℕ) (task : TaskResult) (items : List Item) → AreForOthers host (given_by inventory play p host task items)
unfolding given_by
all_for_others inventory play p host task items = from_place inventory host task items (slice_get play.places p)
