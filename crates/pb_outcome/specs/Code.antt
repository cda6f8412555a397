-- How the logic stores an outcome.
use Rattle.std.specs.Prelude.{◌≡◌, ◌⊎◌, ℕ, ℤ, List, unwrap_or, refl}
use Rattle.std.specs.Coded.{Coded, code_by, coded×, coded⊎, coded_ℕ, coded_ℤ, coded_list}
use Rattle.std.proofs.Common.{inl, inr}
use Rattle.pb_value.specs.Datum.{Datum}
use Rattle.pb_value.specs.Code.{coded_datum}
use Rattle.pb_outcome.specs.Causes.{number_of, cause_of}
use Rattle.pb_outcome.specs.declared.cause.Cause.{Cause}
use Rattle.pb_outcome.specs.declared.cause.Cause.TheVariants.{CannotStart, KilledBySignal, NotUtf8, TooLarge, FactsNotObject, OutOfMemory}
use Rattle.pb_outcome.specs.declared.outcome.Form.{Form}
use Rattle.pb_outcome.specs.declared.outcome.Form.TheVariants.{Ran, Module, Unreachable, NotStarted}

-- the four forms by what is stored of each: a program's end, a value, words about a target, the number of a cause
abbrev Cases : Type 0
Cases = (ℤ × (List ℕ × List ℕ)) ⊎ (Datum ⊎ (List ℕ ⊎ ℕ))

abbrev cases_code : Coded Cases
cases_code = coded⊎ (coded× coded_ℤ (coded× (coded_list coded_ℕ) (coded_list coded_ℕ))) (coded⊎ coded_datum (coded⊎ (coded_list coded_ℕ) coded_ℕ))

-- an outcome as one of these, and back: a number that is no cause's is read as the first cause
abbrev cases : Form → Cases
cases (Ran rc out err) = inl (rc, (out, err))
cases (Module v) = inr (inl v)
cases (Unreachable msg) = inr (inr (inl msg))
cases (NotStarted cause) = inr (inr (inr (number_of cause)))

abbrev from_cases : Cases → Form
from_cases (inl ran) = Ran ran.0 ran.1.0 ran.1.1
from_cases (inr (inl v)) = Module v
from_cases (inr (inr (inl msg))) = Unreachable msg
from_cases (inr (inr (inr n))) = NotStarted (unwrap_or (cause_of n) CannotStart)

-- a cause comes back from its number, and an outcome from what is stored of it
cause_back : (cause : Cause) → unwrap_or (cause_of (number_of cause)) CannotStart ≡ cause
cause_back CannotStart = refl
cause_back KilledBySignal = refl
cause_back NotUtf8 = refl
cause_back TooLarge = refl
cause_back FactsNotObject = refl
cause_back OutOfMemory = refl

pub from_cases-cases : (form : Form) → from_cases (cases form) ≡ form
from_cases-cases (Ran rc out err) = refl
from_cases-cases (Module v) = refl
from_cases-cases (Unreachable msg) = refl
from_cases-cases (NotStarted cause) = λ i. NotStarted (cause_back cause i)

-- different outcomes are stored as different codes
abbrev pub coded_form : Coded Form
coded_form = code_by Cases cases_code cases from_cases from_cases-cases
