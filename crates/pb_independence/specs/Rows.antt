-- Worked plans: which of them are independent, and which are linear.
use Rattle.std.specs.Prelude.{◌≡◌, ℕ, true, false, List, [], ◌∷◌, codes, refl}
use Rattle.pb_expr_syntax.specs.Tree as tree
use Rattle.pb_places.specs.Place.{PlaceOf, bare_place}
use Rattle.pb_hosts.specs.FromPlan.{PlanOf, bare_plan, bare_play, bare_tree}
use Rattle.pb_play.specs.declared.modules.Module.TheVariants.{DebugVar}
use Rattle.pb_strategies.specs.declared.strategy.Strategy.TheVariants.{Free}
use Rattle.pb_independence.specs.Independent.{is_independent, are_linear}

abbrev shows : List ℕ → tree.Tree → PlaceOf
shows words expr = bare_place (codes "debug") (DebugVar words expr)

abbrev names_hosts : PlaceOf
names_hosts = shows (codes "hostvars") (tree.Name (codes "hostvars"))

-- a key behind a dot is no name
abbrev names_member : PlaceOf
names_member = shows (codes "x.hostvars") (tree.Member (tree.Name (codes "x")) (codes "hostvars"))

abbrev one_task : PlaceOf → PlanOf
one_task place = bare_plan (codes "a" ∷ codes "b" ∷ []) (bare_play (codes "all") (bare_tree 0 1 0) (place ∷ []) (true ∷ true ∷ []) ∷ [])

independent : (is_independent (one_task names_member) ≡ true) × (is_independent (one_task names_hosts) ≡ false)
    × (is_independent (one_task (record names_member { delegate_facts = true })) ≡ false)
independent = (refl, refl, refl)

abbrev free : PlanOf
free = bare_plan (codes "a" ∷ []) (record (bare_play (codes "all") (bare_tree 0 1 0) (names_member ∷ []) (true ∷ [])) { strategy = Free } ∷ [])

linear : (are_linear (one_task names_member) ≡ true) × (are_linear free ≡ false)
linear = (refl, refl)
