-- What a host learns: nothing, values that come over what was set and registered, or facts that were gathered besides; and what was before, so that
-- it can be put back.
use Rattle.std.specs.Prelude.{◌≡◌, ℕ, Bool, true, false, List, [], ◌∷◌, ◌++◌, Option, Some, None, unwrap_or}
use Rattle.std.specs.Ordering.{nat_cmp}
use Rattle.std.specs.Cmp.Lexicographic.{slice_cmp}
use Rattle.std.specs.List.Sorted.{IsStrictlySortedBy}
use Rattle.std.specs.Map.{keys_of}
use Rattle.pb_value.specs.Datum.{Datum, named, put}
use Rattle.pb_facts.specs.Stood.{StoodThere}
use Rattle.pb_layers.specs.Scope.{Map}
use Rattle.pb_facts.specs.declared.update.FactsUpdate.{FactsUpdate}
use Rattle.pb_facts.specs.declared.update.FactsUpdate.TheVariants.{Nothing as NoUpdate, More, Gathered as MoreGathered}
use Rattle.pb_facts.specs.declared.update.FactsUndo.{FactsUndo}
use Rattle.pb_facts.specs.declared.update.FactsUndo.TheVariants.{Nothing as NoUndo, Stood, Gathered}
use Rattle.pb_facts.specs.Facts.{FactsOf, merged, with_set}

-- the values come one after another, and so do the facts
abbrev pub applied : FactsUpdate → FactsOf → FactsOf
applied NoUpdate facts = facts
applied (More entries) facts = with_set (named entries.items) facts
applied (MoreGathered more given) facts = merged (named given.items) (with_set (named more.items) facts)

-- one map became another as values were put under these names, in order, under which this stood
abbrev pub LeadsTo : List (List ℕ × Option Datum) → Map → Map → Type 0
LeadsTo [] was now = was ≡ now
LeadsTo (before ∷ log) was now = (value : Datum) × StoodThere before.0 before.1 value was × LeadsTo log (put before.0 value was) now

-- from what a host knows now, this leads back to what it knew
abbrev pub IsUndo : FactsUndo → FactsOf → FactsOf → Type 0
IsUndo NoUndo was now = was ≡ now
IsUndo (Stood log) was now = (was.gathered ≡ now.gathered) × LeadsTo (named log.items) was.set now.set
IsUndo (Gathered stood facts layer) was now = (layer ≡ was.gathered) × LeadsTo (named stood.items) was.set now.set

-- names stand in byte order, each once
abbrev pub IsOrdered : Map → Type 0
IsOrdered known = IsStrictlySortedBy (slice_cmp nat_cmp) (keys_of known)

-- a host that knew this learnt values under these names, and nothing else
abbrev pub LearntUnder : List (List ℕ × Option Datum) → FactsOf → FactsOf → Type 0
LearntUnder log was now = (was.gathered ≡ now.gathered) × IsOrdered was.set × LeadsTo log was.set now.set

-- facts came under these names over those gathered before, of which there may be none
abbrev pub GatheredUnder : List (List ℕ × Option Datum) → Option Map → Option Map → Type 0
GatheredUnder log was now = IsOrdered (unwrap_or was []) × (facts : Map) × LeadsTo log (unwrap_or was []) facts × (now ≡ Some facts)

-- a host that knew this learnt values under these names, facts were gathered of it under those, and nothing else
abbrev pub LearntAndGathered : List (List ℕ × Option Datum) → List (List ℕ × Option Datum) → FactsOf → FactsOf → Type 0
LearntAndGathered log given was now = IsOrdered was.set × LeadsTo log was.set now.set × GatheredUnder given was.gathered now.gathered

-- what lies between what a host knew and what it knows, as what can put it back tells
abbrev pub IsBetween : FactsUndo → FactsOf → FactsOf → Type 0
IsBetween NoUndo was now = was ≡ now
IsBetween (Stood log) was now = LearntUnder (named log.items) was now
IsBetween (Gathered stood facts layer) was now = LearntAndGathered (named stood.items) (named facts.items) was now

-- the entries of several maps, one after another
abbrev pub entries_in : List Map → Map
entries_in [] = []
entries_in (given ∷ more) = given ++ entries_in more

-- the entry under which a task registers its result, if it registers it
abbrev pub registered_entries : Option (List ℕ) → Datum → Map
registered_entries None shown = []
registered_entries (Some name) shown = (name, shown) ∷ []

-- whether some item gives facts
abbrev pub gives_some : List Map → Bool
gives_some [] = false
gives_some (given ∷ more) = true
