-- What a play has at its places fits its tree.
use Rattle.std.proofs.Common.{◌≡◌, ℕ, Bool, List, [], ◌∷◌, Option, sym, subst, arith}
use Rattle.std.specs.List.{All}
use Rattle.std.proofs.lemmas.List.Elements.{All-cons, All-head, All-tail}
use Rattle.pb_inventory.specs.InventoryOf.{InventoryOf}
use Rattle.pb_layers.specs.Scope.{Map}
use Rattle.pb_patterns.specs.declared.element.Element.{Element}
use Rattle.pb_roles.specs.Plays.{IsBuilt}
use Rattle.pb_roles.specs.declared.sections.Expanded.{Expanded}
use Rattle.pb_planning.specs.Bundle.{play_with, both, ArePlaysOf, IsPlanIn}
use Rattle.pb_plan.specs.Plan.{PlayOf, PlanOf, Fits}

play_fits : (inventory : InventoryOf) (hosts : List Bool) (play : Expanded) → IsBuilt play → Fits (play_with inventory hosts play)
play_fits inventory hosts play built = record { places = built.places; caught = built.caught }

all_fit : (inventory : InventoryOf) (limit : List Bool) (plays : List Expanded) (planned : List PlayOf) (lines : List (List ℕ))
    → ArePlaysOf inventory limit plays planned lines → All IsBuilt plays → All Fits planned
all_fit inventory limit [] [] lines are built = λ k d below. absurd (let never : ⊥ = omega (arith, below) in never)
all_fit inventory limit [] (p ∷ rest) lines are built = elim are [ ]
all_fit inventory limit (play ∷ plays) [] lines are built = elim are [ ]
all_fit inventory limit (play ∷ plays) (p ∷ rest) lines (first, later, (own, selects, is, warns), others, both_are) built =
    All-cons Fits p rest (subst Fits (sym is) (play_fits inventory (both own.hosts limit) play (All-head IsBuilt play plays built)))
    (all_fit inventory limit plays rest later others (All-tail IsBuilt play plays built))

pub plan_fits : (inventory : InventoryOf) (extra : Map) (limit : Option (List Element)) (forks : ℕ) (program : Bool) (plays : List Expanded) (plan : PlanOf)
    → IsPlanIn inventory extra limit forks program plays plan → All IsBuilt plays → All Fits plan.plays
plan_fits inventory extra limit forks program plays plan made built = all_fit inventory made.selected.hosts plays plan.plays made.lines made.plays built
