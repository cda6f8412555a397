-- What it means for the machine that hosts know nothing of each other.
use Rattle.std.specs.Prelude.{◌≡◌, ℕ, true, List, [], Option, Some, slice_get}
use Rattle.pb_value.specs.Datum.{Datum}
use Rattle.pb_facts.specs.Facts.{FactsOf}
use Rattle.pb_outcome.specs.declared.gather.ItemResult.{ItemResult}
use Rattle.pb_outcome.specs.declared.item.Item.{Item}
use Rattle.pb_hosts.specs.FromPlan.{PlayOf, PlanOf}
use Rattle.pb_hosts.specs.FromTaskVars.{items_at, came_at, seen_with}
use Rattle.pb_hosts.specs.Giving.{gifts_at}
use Rattle.pb_independence.specs.Independent.{is_independent}

-- in a play of the plan a task has the same items, and says the same of each attempt at them, whatever the hosts have learnt; and it gives nothing to other hosts
pub record AreApart (plan : PlanOf) : Type 0 where
  pub starts : (n : ℕ) (play : PlayOf) → slice_get plan.plays n ≡ Some play → (learnt : List FactsOf) (h : ℕ) (facts : FactsOf) (p : ℕ)
      → items_at (seen_with plan learnt) play h facts p ≡ items_at plan play h facts p
  pub attempts : (n : ℕ) (play : PlayOf) → slice_get plan.plays n ≡ Some play → (learnt : List FactsOf) (h : ℕ) (facts : FactsOf) (p : ℕ) (value : Option Datum) (attempt : ℕ) (item : ItemResult)
      → came_at (seen_with plan learnt) play h facts p value attempt item ≡ came_at plan play h facts p value attempt item
  pub gives : (n : ℕ) (play : PlayOf) → slice_get plan.plays n ≡ Some play → (p h : ℕ) (items : List Item) → gifts_at plan.inventory play p h items ≡ []

-- so it is in every independent plan
abbrev pub HostsAreApart : Type 0
HostsAreApart = (plan : PlanOf) → is_independent plan ≡ true → AreApart plan
