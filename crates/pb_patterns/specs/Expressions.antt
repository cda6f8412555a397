-- The regular expressions that a reading meets, which the regex crate may refuse, and what is then the first fault of the reading.
use Rattle.std.specs.Prelude.{◌≡◌, ◌≢◌, ◌⊎◌, ℕ, List, [], ◌∷◌, Result, Ok, Err}
use Rattle.regex.specs.Strings.{IsDefaultFailure}
use Rattle.regex.specs.declared.error.Error.{Error}
use Rattle.regex.specs.declared.error.Error.TheVariants.{OutOfMemory}
use Rattle.regex.specs.declared.string.regex.Regex.{Regex}
use Rattle.pb_patterns.specs.Built.{IsRegexOf}

-- the regex crate built a pattern for the expression
abbrev pub IsTaken : List ℕ → Type 0
IsTaken source = (r : Regex) × IsRegexOf source r

-- the regex crate refuses the expression, for another cause than memory
abbrev pub IsRefused : List ℕ → Type 0
IsRefused source = (e : Error) × (e ≢ OutOfMemory) × IsDefaultFailure source e

-- the regex crate builds a pattern for each of the expressions
abbrev pub AreTaken : List (List ℕ) → Type 0
AreTaken [] = Unit {0}
AreTaken (source ∷ sources) = IsTaken source × AreTaken sources

-- one of the expressions is refused, and each before it is taken
abbrev pub HasRefused : List (List ℕ) → Type 0
HasRefused [] = ⊥
HasRefused (source ∷ sources) = IsRefused source ⊎ (IsTaken source × HasRefused sources)

-- the expressions that are met behind a part of a reading: none, where the part has a fault
abbrev pub behind : {A F : Type 0} → Result A F → (A → List (List ℕ)) → List (List ℕ)
behind (Ok x) met = met x
behind (Err e) met = []

-- The first fault of what is read, where these expressions are met in front of a fault: all of them are taken, and it is the fault that is read where
-- every expression is taken; or it is the fault of a refused expression, where the first refused one has only taken ones in front.
abbrev pub IsFirstFault : {A F : Type 0} → List (List ℕ) → Result A F → F → F → Type 0
IsFirstFault met reading of_refused e = (AreTaken met × (reading ≡ Err e)) ⊎ ((e ≡ of_refused) × HasRefused met)
