-- The reader of an outcome, once its first keys are read.
use Rattle.std.proofs.Common.{◌≡◌, ℕ, ℤ, List, Result, Ok, Err, ap, sym, subst, refl, ◌∙◌}
use Rattle.std.specs.Prelude.{Option, codes}
use Rattle.std.specs.Result.{IsErrAnd}
use Rattle.serde_json.specs.Data as json
use Rattle.pb_value.specs.Reading.{and_then}
use Rattle.pb_reading.specs.Fields.{Ahead, Read, others, rule, value_of}
use Rattle.pb_reading.specs.Reading.{Reading, Stops, Gives}
use Rattle.pb_reading.specs.declared.stop.Stop.{Stop}
use Rattle.pb_reading.specs.declared.stop.Stop.TheVariants as stop
use Rattle.pb_outcome.specs.Reading.{text, status, facts, not_started, unreachable, told_by_unknown, whole, key, rest_of_outcome, outcome}
use Rattle.pb_outcome.specs.declared.fault.OutcomeFault.{OutcomeFault}
use Rattle.pb_outcome.specs.declared.outcome.Form.{Form}
use Rattle.pb_outcome.specs.declared.reading.FirstKeys.{FirstKeys}
use Rattle.pb_outcome.specs.declared.reading.FirstUnknown.{FirstUnknown}
use Rattle.pb_outcome.specs.declared.reading.FirstUnknown.TheVariants.{NoKey}

-- what a stop is handed out as
pub stopped : {A : Type 0} (result : Result A (Stop OutcomeFault)) (s : Stop OutcomeFault) (r : Reading A OutcomeFault) → IsErrAnd result (λ e. e ≡ s) → Stops s r → Gives result r
stopped (Ok x) s r same stops = absurd same
stopped (Err e) s r same stops = subst (λ e. Stops e r) (sym same) stops

-- what stops a part stops what follows it
stops_first : {A B : Type 0} (s : Stop OutcomeFault) (first : Reading A OutcomeFault) (next : A → Reading (Read B FirstUnknown) OutcomeFault) → Stops s first → Stops s (value_of (and_then first next))
stops_first stop.Memory first next stops = stops
stops_first (stop.WrongShape path) first next stops = ap (λ r. value_of (and_then r next)) stops
stops_first (stop.Fault f) first next stops = ap (λ r. value_of (and_then r next)) stops

-- behind `rc`
abbrev last : List ℕ → FirstKeys → Option (List ℕ) → Option ℤ → Read (Option Form) FirstUnknown → Reading (Read Form FirstUnknown) OutcomeFault
last path first out rc x = and_then (others told_by_unknown x.ahead) (λ y. rule (whole path first out rc x.value y.value) y.ahead)

behind_rc : (path : List ℕ) (first : FirstKeys) (a b d : Ahead FirstUnknown) (out : Option (List ℕ)) (rc : Option ℤ)
    → key (codes "out") text a ≡ Ok (record { value = out; ahead = b }) → key (codes "rc") status b ≡ Ok (record { value = rc; ahead = d })
    → value_of (rest_of_outcome path first a) ≡ value_of (and_then (key (codes "unreachable") unreachable d) (last path first out rc))
unfolding rest_of_outcome
behind_rc path first a b d out rc e f =
    ap (λ r. value_of (and_then r (λ x. and_then (key (codes "rc") status x.ahead) (λ y. and_then (key (codes "unreachable") unreachable y.ahead) (last path first x.value y.value))))) e
    ∙ ap (λ r. value_of (and_then r (λ y. and_then (key (codes "unreachable") unreachable y.ahead) (last path first out y.value)))) f

ruled : (r : Reading Form OutcomeFault) (a : Ahead FirstUnknown) → value_of (rule r a) ≡ r
ruled (Ok form) a = refl
ruled (Err e) a = refl

pub unreachable_stops : (path : List ℕ) (first : FirstKeys) (a b d : Ahead FirstUnknown) (out : Option (List ℕ)) (rc : Option ℤ) (s : Stop OutcomeFault)
    → key (codes "out") text a ≡ Ok (record { value = out; ahead = b }) → key (codes "rc") status b ≡ Ok (record { value = rc; ahead = d })
    → Stops s (key (codes "unreachable") unreachable d) → Stops s (value_of (rest_of_outcome path first a))
unreachable_stops path first a b d out rc s e f stops =
    subst (Stops s) (sym (behind_rc path first a b d out rc e f)) (stops_first s (key (codes "unreachable") unreachable d) (last path first out rc) stops)

pub unknown_stops : (path : List ℕ) (first : FirstKeys) (a b d g : Ahead FirstUnknown) (out : Option (List ℕ)) (rc : Option ℤ) (lost : Option Form) (s : Stop OutcomeFault)
    → key (codes "out") text a ≡ Ok (record { value = out; ahead = b }) → key (codes "rc") status b ≡ Ok (record { value = rc; ahead = d })
    → key (codes "unreachable") unreachable d ≡ Ok (record { value = lost; ahead = g })
    → Stops s (others told_by_unknown g) → Stops s (value_of (rest_of_outcome path first a))
unknown_stops path first a b d g out rc lost s e f l stops =
    subst (Stops s) (sym (behind_rc path first a b d out rc e f ∙ ap (λ r. value_of (and_then r (last path first out rc))) l))
    (stops_first s (others told_by_unknown g) (λ y. rule (whole path first out rc lost y.value) y.ahead) stops)

pub rest_is : (path : List ℕ) (first : FirstKeys) (a b d g h : Ahead FirstUnknown) (out : Option (List ℕ)) (rc : Option ℤ) (lost : Option Form) (unknown : FirstUnknown)
    → key (codes "out") text a ≡ Ok (record { value = out; ahead = b }) → key (codes "rc") status b ≡ Ok (record { value = rc; ahead = d })
    → key (codes "unreachable") unreachable d ≡ Ok (record { value = lost; ahead = g }) → others told_by_unknown g ≡ Ok (record { value = unknown; ahead = h })
    → value_of (rest_of_outcome path first a) ≡ whole path first out rc lost unknown
rest_is path first a b d g h out rc lost unknown e f l u =
    behind_rc path first a b d out rc e f ∙ ap (λ r. value_of (and_then r (last path first out rc))) l
    ∙ ap (λ r. value_of (and_then r (λ y. rule (whole path first out rc lost y.value) y.ahead))) u ∙ ruled (whole path first out rc lost unknown) h

-- behind `facts`
abbrev pub front : List ℕ → json.Members → Ahead FirstUnknown
front path ms = record { path = path; members = ms; told = NoKey }

abbrev late : List ℕ → Option (List ℕ) → Option Form → Read (Option Form) FirstUnknown → Reading (Read Form FirstUnknown) OutcomeFault
late path err value x = rest_of_outcome path (record { err = err; facts = value; not_started = x.value }) x.ahead

behind_facts : (path : List ℕ) (ms : json.Members) (a b d : Ahead FirstUnknown) (err : Option (List ℕ)) (value : Option Form) → a ≡ front path ms
    → key (codes "err") text a ≡ Ok (record { value = err; ahead = b }) → key (codes "facts") facts b ≡ Ok (record { value = value; ahead = d })
    → outcome path (json.object ms) ≡ value_of (and_then (key (codes "not_started") not_started d) (late path err value))
unfolding outcome
behind_facts path ms a b d err value same e f =
    ap (λ a. value_of (and_then (key (codes "err") text a) (λ x. and_then (key (codes "facts") facts x.ahead) (λ y. and_then (key (codes "not_started") not_started y.ahead) (late path x.value y.value))))) (sym same)
    ∙ ap (λ r. value_of (and_then r (λ x. and_then (key (codes "facts") facts x.ahead) (λ y. and_then (key (codes "not_started") not_started y.ahead) (late path x.value y.value))))) e
    ∙ ap (λ r. value_of (and_then r (λ y. and_then (key (codes "not_started") not_started y.ahead) (late path err y.value)))) f

pub not_started_stops : (path : List ℕ) (ms : json.Members) (a b d : Ahead FirstUnknown) (err : Option (List ℕ)) (value : Option Form) (s : Stop OutcomeFault) → a ≡ front path ms
    → key (codes "err") text a ≡ Ok (record { value = err; ahead = b }) → key (codes "facts") facts b ≡ Ok (record { value = value; ahead = d })
    → Stops s (key (codes "not_started") not_started d) → Stops s (outcome path (json.object ms))
not_started_stops path ms a b d err value s same e f stops =
    subst (Stops s) (sym (behind_facts path ms a b d err value same e f)) (stops_first s (key (codes "not_started") not_started d) (late path err value) stops)

pub outcome_is : (path : List ℕ) (ms : json.Members) (a b d g : Ahead FirstUnknown) (err : Option (List ℕ)) (value no_answer : Option Form) → a ≡ front path ms
    → key (codes "err") text a ≡ Ok (record { value = err; ahead = b }) → key (codes "facts") facts b ≡ Ok (record { value = value; ahead = d })
    → key (codes "not_started") not_started d ≡ Ok (record { value = no_answer; ahead = g })
    → outcome path (json.object ms) ≡ value_of (rest_of_outcome path (record { err = err; facts = value; not_started = no_answer }) g)
outcome_is path ms a b d g err value no_answer same e f n = behind_facts path ms a b d err value same e f ∙ ap (λ r. value_of (and_then r (late path err value))) n
