-- The test for a cycle beside ways from group to group.
use Rattle.std.proofs.Common.{◌≡◌, ◌<◌, ◌&&◌, ℕ, zero, suc, Bool, true, false, List, arith, refl, ap, sym, ◌∙◌}
use Rattle.std.specs.Prelude.{◌==◌}
use Rattle.std.proofs.lemmas.List.Folds.{list_any_at, Any-from_list_any}
use Rattle.pb_groups.specs.declared.links.ChildLink.{ChildLink}
use Rattle.pb_groups.specs.Ways.{Way, IsChild, link}
use Rattle.pb_groups.specs.Depths.{IsEndless}
use Rattle.pb_inventory.specs.Graph.{begins_way, has_cycle}
use Rattle.std.proofs.lemmas.List.{get_or_default}
use Rattle.std.proofs.Common.{eq-eqb}
use Rattle.std.proofs.lemmas.Bool.{eqb-true}

both : (a b : Bool) → a ≡ true → b ≡ true → (a && b) ≡ true
both a b e f = rw (e, f) refl

first_of_both : (a b : Bool) → (a && b) ≡ true → a ≡ true
first_of_both true b e = refl
first_of_both false b e = e

second_of_both : (a b : Bool) → (a && b) ≡ true → b ≡ true
second_of_both true b e = e
second_of_both false b e = grind arith

-- the first step of a way, and the way that goes on
first_step : (links : List ChildLink) (steps from to : ℕ) → Way links (suc steps) from to → (next : ℕ) × IsChild links from next × Way links steps next to
first_step links zero from to way = (to, (way.2.0, way.2.1, way.2.2 ∙ sym way.1, way.2.3), refl)
first_step links (suc steps) from to way = let first = first_step links steps from way.0 way.1 in (first.0, first.1, (way.0, first.2, way.2))

joins_way : (links : List ChildLink) (steps from next to : ℕ) → IsChild links from next → Way links steps next to → Way links (suc steps) from to
joins_way links zero from next to is way = (from, refl, (is.0, is.1, is.2, is.3 ∙ way))
joins_way links (suc steps) from next to is way = (way.0, joins_way links steps from next way.0 is way.1, way.2)

begins : (links : List ChildLink) (steps from to : ℕ) → Way links steps from to → begins_way links steps from ≡ true
begins links zero from to way = refl
begins links (suc steps) from to way =
    let first = first_step links steps from to way in
    let k = first.1.0 in
    list_any_at _ links k (link 0 0) first.1.1
    (both _ _ (eq-eqb _ _ first.1.2) (ap (begins_way links steps) first.1.3 ∙ begins links steps first.0 to first.2))

pub cycle_from_endless : (links : List ChildLink) (groups : ℕ) → 0 < groups → IsEndless links groups → has_cycle links groups ≡ true
cycle_from_endless links zero some endless = absurd (omega (arith, some))
cycle_from_endless links (suc n) some endless =
    let first = first_step links n endless.0 endless.1 endless.2 in
    list_any_at _ links first.1.0 (link 0 0) first.1.1 (ap (begins_way links (suc n)) first.1.2 ∙ begins links (suc n) endless.0 endless.1 endless.2)

way_begun : (links : List ChildLink) (steps from : ℕ) → begins_way links steps from ≡ true → (to : ℕ) × Way links steps from to
way_begun links zero from b = (from, refl)
way_begun links (suc steps) from b =
    let any = Any-from_list_any (λ l. (l.parent.0 == from) && begins_way links steps l.child.0) links b in
    let on = way_begun links steps any.1.child.0 (second_of_both _ _ any.4) in
    let at = get_or_default links any.0 (link 0 0) any.1 any.2 ∙ any.3 in (
      on.0,
      joins_way links steps from any.1.child.0 on.0
          (any.0, any.2, ap (λ l. l.parent.0) at ∙ eqb-true _ _ (first_of_both _ _ any.4), ap (λ l. l.child.0) at) on.1,
    )

pub endless_from_cycle : (links : List ChildLink) (groups : ℕ) → has_cycle links groups ≡ true → IsEndless links groups
endless_from_cycle links groups b =
    let any = Any-from_list_any (λ l. begins_way links groups l.parent.0) links b in
    let way = way_begun links groups any.1.parent.0 any.4 in (any.1.parent.0, way.0, way.1)
