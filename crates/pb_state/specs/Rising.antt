-- No host goes back in a play: the places at which it starts there rise strictly, through blocks, their rescues and their always parts
-- (Ansible's documentation, "Blocks").
use Rattle.std.specs.Prelude.{◌≡◌, ◌<◌, ℕ, List, [], ◌∷◌, Option, Some, None}
use Rattle.pb_state.specs.declared.event.Event.{Event}
use Rattle.pb_plan.specs.Plan.{PlanOf}
use Rattle.pb_state.specs.Machine.{first_state}
use Rattle.pb_state.specs.Once.{StartOf, starts_from}
use Rattle.pb_state.specs.Run.{IsLegalUnder}

-- a place that stands before another
abbrev pub IsBefore : Option ℕ → Option ℕ → Type 0
IsBefore (Some p) (Some q) = p < q
IsBefore (Some p) None = ⊥
IsBefore None q = ⊥

-- a start and a later one: where they are of one host in one play, their places rise
abbrev pub IsRise : StartOf → StartOf → Type 0
IsRise first later = first.host ≡ later.host → first.play ≡ later.play → IsBefore first.place later.place

-- the same of a start and each of these later ones
abbrev pub IsBeforeAll : StartOf → List StartOf → Type 0
IsBeforeAll first [] = Unit {0}
IsBeforeAll first (later ∷ rest) = IsRise first later × IsBeforeAll first rest

-- the same of each of these starts, oldest first, and all behind it
abbrev pub DoRise : List StartOf → Type 0
DoRise [] = Unit {0}
DoRise (first ∷ rest) = IsBeforeAll first rest × DoRise rest

-- whatever events are possible one after another from the first state on
abbrev pub StartsRise : Type 0
StartsRise =
    (plan : PlanOf) (forks pool : ℕ) (trail : List Event) →
    IsLegalUnder plan forks pool trail → DoRise (starts_from plan (first_state plan forks pool) trail)
