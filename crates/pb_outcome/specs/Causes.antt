-- Why a job's program gave no answer: the causes by their numbers, and what a result says of each.
use Rattle.std.specs.Prelude.{ℕ, zero, suc, List, Option, Some, None, codes}
use Rattle.pb_outcome.specs.declared.cause.Cause.{Cause}
use Rattle.pb_outcome.specs.declared.cause.Cause.TheVariants.{CannotStart, KilledBySignal, NotUtf8, TooLarge, FactsNotObject, OutOfMemory}

abbrev pub number_of : Cause → ℕ
number_of CannotStart = 1
number_of KilledBySignal = 2
number_of NotUtf8 = 3
number_of TooLarge = 4
number_of FactsNotObject = 5
number_of OutOfMemory = 6

-- a number that isn't from 1 to 6 is no cause's
abbrev pub cause_of : ℕ → Option Cause
cause_of zero = None
cause_of (suc zero) = Some CannotStart
cause_of (suc (suc zero)) = Some KilledBySignal
cause_of (suc (suc (suc zero))) = Some NotUtf8
cause_of (suc (suc (suc (suc zero)))) = Some TooLarge
cause_of (suc (suc (suc (suc (suc zero))))) = Some FactsNotObject
cause_of (suc (suc (suc (suc (suc (suc zero)))))) = Some OutOfMemory
cause_of (suc (suc (suc (suc (suc (suc (suc n))))))) = None

abbrev pub message_of : Cause → List ℕ
message_of CannotStart = codes "cannot start"
message_of KilledBySignal = codes "killed by a signal"
message_of NotUtf8 = codes "output is not UTF-8"
message_of TooLarge = codes "output is too large"
message_of FactsNotObject = codes "facts are not a JSON object"
message_of OutOfMemory = codes "out of memory"
