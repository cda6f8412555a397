-- The names of the hosts that a run didn't bring through, as a limit takes them.
use Rattle.std.specs.Prelude.{◌≡◌, ℕ, ◌+◌, Bool, true, false, List, [], ◌∷◌, ◌++◌, codes, if◌then◌else◌}
use Rattle.pb_audit.specs.Audit.{end_of}
use Rattle.pb_planning.specs.Bundle.{IsPlanOf}
use Rattle.pb_plan.specs.Plan.{PlanOf}
use Rattle.pb_planning.specs.declared.bundle.Bundle.{Bundle}
use Rattle.pb_state.specs.State.{State}
use Rattle.pb_state.specs.Through.{got_through}
use Rattle.pb_state.specs.declared.event.Event.{Event}

-- the names of those hosts, from the one of this number on, that didn't get through: in the order of hosts
abbrev pub left_from : (through : ℕ → Bool) → ℕ → List (List ℕ) → List (List ℕ)
left_from through host [] = []
left_from through host (name ∷ names) = if through host then left_from through (host + 1) names else name ∷ left_from through (host + 1) names

-- a name, behind a comma where another one stands before it
abbrev pub behind : (others : Bool) → List ℕ → List ℕ
behind false name = name
behind true name = codes "," ++ name

-- names that stand behind others, or behind none: a comma between two, and a line end behind the last; nothing where there is none at all
abbrev pub joined : (others : Bool) → List (List ℕ) → List ℕ
joined false [] = []
joined true [] = codes "\n"
joined others (name ∷ names) = behind others name ++ joined true names

-- what a host adds to the text
abbrev pub left_if : (through others : Bool) → List ℕ → List ℕ
left_if true others name = []
left_if false others name = behind others name

-- the text of all hosts that a run which has come to this state didn't bring through; empty where there is none
abbrev pub failed_text : PlanOf → State → List ℕ
failed_text plan s = joined false (left_from (got_through plan s) 0 plan.inventory.hosts)

-- the text of the hosts that a bundle's run with this trail didn't bring through
abbrev pub IsFailedOf : Bundle → List Event → List ℕ → Type 0
IsFailedOf bundle trail text = (plan : PlanOf) × IsPlanOf bundle plan × (text ≡ failed_text plan (end_of plan trail))
