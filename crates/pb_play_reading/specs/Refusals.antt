-- The regular expressions that a reader meets, each with the path of the hosts in whose pattern it stands, and what the reader gives where the regex crate may
-- refuse them.
use Rattle.std.specs.Prelude.{◌≡◌, ◌⊎◌, ℕ, List, [], ◌∷◌, Result, Ok, Err}
use Rattle.pb_patterns.specs.Expressions.{IsTaken, IsRefused}
use Rattle.pb_reading.specs.Reading.{Reading, Fault, WrongShape, Own}
use Rattle.pb_reading.specs.declared.stop.Stop.{Stop}
use Rattle.pb_reading.specs.declared.stop.Stop.TheVariants as stop
use Rattle.pb_written.specs.declared.fault.LoadFault.{LoadFault}
use Rattle.pb_written.specs.declared.fault.LoadFault.TheVariants.{BadPattern}

-- an expression, and the path of its hosts
pub record Placed : Type 0 where
  pub path : List ℕ
  pub source : List ℕ

-- the expressions of the hosts at a path
abbrev pub met_at : List ℕ → List (List ℕ) → List Placed
met_at path [] = []
met_at path (source ∷ sources) = record { path = path; source = source } ∷ met_at path sources

-- those that are met behind a part of a reading: none, where the part has a fault
abbrev pub met_behind : {A F : Type 0} → Result A F → (A → List Placed) → List Placed
met_behind (Ok x) met = met x
met_behind (Err e) met = []

-- the regex crate built a pattern for each of them
abbrev pub AllTaken : List Placed → Type 0
AllTaken [] = Unit {0}
AllTaken (one ∷ more) = IsTaken one.source × AllTaken more

-- one of them is refused, whose hosts stand at this path, and each before it is taken
abbrev pub HasRefusedAt : List Placed → List ℕ → Type 0
HasRefusedAt [] path = ⊥
HasRefusedAt (one ∷ more) path = (IsRefused one.source × (one.path ≡ path)) ⊎ (IsTaken one.source × HasRefusedAt more path)

-- The first fault of what is read, where these expressions are met in front of a fault: all of them are taken, and it is the fault that is read where
-- every expression is taken; or it is the fault of a refused expression, at the path of its hosts.
abbrev pub IsFirstFaultAt : {A F : Type 0} → List Placed → Result A F → (List ℕ → F) → F → Type 0
IsFirstFaultAt met reading of_refused e = (AllTaken met × (reading ≡ Err e)) ⊎ ((path : List ℕ) × (e ≡ of_refused path) × HasRefusedAt met path)

-- hosts that are no pattern
abbrev pub bad_pattern : List ℕ → Fault LoadFault
bad_pattern path = Own (BadPattern path)

-- What a reader returned that meets these expressions: the value that its definition gives, where all of them are taken; or the first fault, which is
-- BadPattern for one that is refused.
abbrev pub GivesOf : {A : Type 0} → Result A (Stop LoadFault) → List Placed → Reading A LoadFault → Type 0
GivesOf (Ok x) met r = AllTaken met × (r ≡ Ok x)
GivesOf (Err stop.Memory) met r = Unit {0}
GivesOf (Err (stop.WrongShape path)) met r = IsFirstFaultAt met r bad_pattern (WrongShape path)
GivesOf (Err (stop.Fault f)) met r = IsFirstFaultAt met r bad_pattern (Own f)
