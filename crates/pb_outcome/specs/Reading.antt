-- The outcome that a JSON value is, or the first fault in it. It is an object with exactly the keys of one of the four forms. Known keys
-- are looked at in byte order; then an unknown key is a fault, the first one in byte order; then keys that don't make one form.
use Rattle.std.specs.Prelude.{ℕ, ℤ, List, Result, Ok, Err, Option, Some, None, codes, length, nat_lt, option_and_then, if◌then◌else◌}
use Rattle.serde_json.specs.Data as json
use Rattle.serde_json.specs.Find.{as_i64, as_u64}
use Rattle.pb_value.specs.Datum.{Datum}
use Rattle.pb_value.specs.FromJson.{value_of}
use Rattle.pb_value.specs.Reading.{and_then, map_ok}
use Rattle.pb_value.specs.declared.fault.ValFault.{ValFault}
use Rattle.pb_reading.specs.Fields.{◌>>=◌, Part, Telling, field, others, object, rule}
use Rattle.pb_reading.specs.Reading.{Reading, WrongShape, Own, wrong, required}
use Rattle.pb_outcome.specs.Causes.{cause_of}
use Rattle.pb_value.specs.Limits.{max_text}
use Rattle.pb_outcome.specs.declared.cause.Cause.{Cause}
use Rattle.pb_outcome.specs.declared.fault.OutcomeFault.{OutcomeFault}
use Rattle.pb_outcome.specs.declared.fault.OutcomeFault.TheVariants as outcome_fault
use Rattle.pb_outcome.specs.declared.outcome.Form.{Form}
use Rattle.pb_outcome.specs.declared.outcome.Form.TheVariants.{Ran, Module, Unreachable, NotStarted}
use Rattle.pb_outcome.specs.declared.reading.FirstKeys.{FirstKeys}
use Rattle.pb_outcome.specs.declared.reading.FirstUnknown.{FirstUnknown}
use Rattle.pb_outcome.specs.declared.reading.FirstUnknown.TheVariants.{NoKey, At}
use Rattle.pb_outcome.specs.declared.reading.Met.{Met}
use Rattle.pb_outcome.specs.declared.reading.Met.TheVariants.{Nothing, One, Mixed}

-- a text of at most 1 MiB
unfoldable pub text : List ℕ → json.Data → Reading (List ℕ) OutcomeFault
text path (json.string s) = if nat_lt max_text (length s) then wrong path else Ok s
text path d = wrong path

-- an exit status is a whole number of 64 bits with a sign
unfoldable pub status : List ℕ → json.Data → Reading ℤ OutcomeFault
status path (json.number n) = required path (as_i64 n)
status path d = wrong path

-- a cause is a number from 1 to 6
abbrev pub cause : List ℕ → json.Data → Reading Cause OutcomeFault
cause path (json.number n) = required path (option_and_then cause_of (as_u64 n))
cause path d = wrong path

-- a value that is refused is a wrong shape
abbrev pub found_value : List ℕ → Result Datum ValFault → Reading Form OutcomeFault
found_value path (Ok v) = Ok (Module v)
found_value path (Err e) = wrong path

-- the forms that have one key
unfoldable pub facts : List ℕ → json.Data → Reading Form OutcomeFault
facts path d = found_value path (value_of d)

unfoldable pub not_started : List ℕ → json.Data → Reading Form OutcomeFault
not_started path d = map_ok NotStarted (cause path d)

unfoldable pub unreachable : List ℕ → json.Data → Reading Form OutcomeFault
unreachable path d = map_ok Unreachable (text path d)

-- the first key that no form has is kept until all known keys are looked at
unfoldable pub told_by_unknown : Telling FirstUnknown OutcomeFault
told_by_unknown NoKey path k d = Ok (At path)
told_by_unknown (At before) path k d = Ok (At before)

-- no unknown key was met; else the fault is at the first one
abbrev pub no_unknown : FirstUnknown → Reading Unit OutcomeFault
no_unknown NoKey = Ok tt
no_unknown (At path) = wrong path

-- a program's end has all its parts
abbrev pub ran : Option (List ℕ) → Option (List ℕ) → Option ℤ → Met
ran (Some err) (Some out) (Some rc) = One (Ran rc out err)
ran None None None = Nothing
ran err out rc = Mixed

-- what was met, and a form beside it if that is there; two are too many
abbrev pub and_form : Option Form → Met → Met
and_form None before = before
and_form (Some form) Nothing = One form
and_form (Some form) before = Mixed

-- the one form that was met; where none was, or too much, the object at this path has a wrong shape
abbrev pub the_form : List ℕ → Met → Reading Form OutcomeFault
the_form path (One form) = Ok form
the_form path before = wrong path

-- what is met in all known keys: the first three, `out`, `rc` and `unreachable`
abbrev pub met_with : FirstKeys → Option (List ℕ) → Option ℤ → Option Form → Met
met_with first out rc lost = and_form lost (and_form first.not_started (and_form first.facts (ran first.err out rc)))

-- what all known keys hold makes one form, and there is no other key
unfoldable pub whole : List ℕ → FirstKeys → Option (List ℕ) → Option ℤ → Option Form → FirstUnknown → Reading Form OutcomeFault
whole path first out rc lost unknown = and_then (no_unknown unknown) (λ _. the_form path (met_with first out rc lost))

-- a known key, if it stands there; the first unknown one before it is kept
abbrev pub key : {A : Type 0} → List ℕ → (List ℕ → json.Data → Reading A OutcomeFault) → Part FirstUnknown OutcomeFault (Option A)
key = field told_by_unknown

-- an outcome behind `not_started`
unfoldable pub rest_of_outcome : List ℕ → FirstKeys → Part FirstUnknown OutcomeFault Form
rest_of_outcome path first = do
  out ← key (codes "out") text
  rc ← key (codes "rc") status
  lost ← key (codes "unreachable") unreachable
  unknown ← others told_by_unknown
  rule (whole path first out rc lost unknown)

unfoldable pub outcome : List ℕ → json.Data → Reading Form OutcomeFault
outcome path = object NoKey (do
  err ← key (codes "err") text
  value ← key (codes "facts") facts
  no_answer ← key (codes "not_started") not_started
  rest_of_outcome path (record { err = err; facts = value; not_started = no_answer })) path

-- the fault of an outcome for that of a reading
abbrev pub of_reading : Reading Form OutcomeFault → Result Form OutcomeFault
of_reading (Ok form) = Ok form
of_reading (Err (WrongShape path)) = Err (outcome_fault.WrongShape path)
of_reading (Err (Own e)) = Err e

-- the outcome at a path, or the first fault in it
unfoldable pub outcome_of : List ℕ → json.Data → Result Form OutcomeFault
outcome_of path d = of_reading (outcome path d)
