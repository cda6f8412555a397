-- What a reader gives whose regular expressions may be refused, from what its parts give.
use Rattle.std.proofs.Common.{◌≡◌, List, [], ◌++◌, Result, Ok, Err, inl, sym, ◌∙◌, ap, subst}
use Rattle.pb_value.specs.Reading.{and_then}
use Rattle.pb_reading.specs.Reading.{Reading, WrongShape, Own, Gives}
use Rattle.pb_reading.specs.declared.stop.Stop.{Stop}
use Rattle.pb_reading.specs.declared.stop.Stop.TheVariants as stop
use Rattle.pb_play_reading.specs.Refusals.{Placed, met_behind, AllTaken, bad_pattern, GivesOf}
use Rattle.pb_play_reading.proofs.Meeting.{first_part, next_part, next_taken, behind_taken, made_of}
use Rattle.pb_written.specs.declared.fault.LoadFault.{LoadFault}

-- a reader that meets no expression
pub gives_plain : {A : Type 0} (result : Result A (Stop LoadFault)) (r : Reading A LoadFault) → Gives result r → GivesOf result [] r
gives_plain (Ok x) r given = (tt, given)
gives_plain (Err stop.Memory) r given = given
gives_plain (Err (stop.WrongShape path)) r given = inl (tt, given)
gives_plain (Err (stop.Fault f)) r given = inl (tt, given)

-- a reader that stops in the first part
pub gives_first : {A B : Type 0} (e : Stop LoadFault) (met : List Placed) (r : Reading A LoadFault) (next : A → Reading B LoadFault) (more : A → List Placed) → GivesOf (Err e) met r
    → GivesOf (Err e) (met ++ met_behind r more) (and_then r next)
gives_first stop.Memory met r next more given = given
gives_first (stop.WrongShape path) met r next more given = first_part met r next more bad_pattern (WrongShape path) given
gives_first (stop.Fault f) met r next more given = first_part met r next more bad_pattern (Own f) given

-- one that stops in what is behind it, or reads that too
pub gives_next : {A B : Type 0} (result : Result B (Stop LoadFault)) (met : List Placed) (r : Reading A LoadFault) (x : A) (next : A → Reading B LoadFault) (more : A → List Placed) → AllTaken met → r ≡ Ok x
    → GivesOf result (more x) (next x) → GivesOf result (met ++ met_behind r more) (and_then r next)
gives_next (Ok y) met r x next more front is given = (next_taken met r x more front is given.0, ap (λ r. and_then r next) is ∙ given.1)
gives_next (Err stop.Memory) met r x next more front is given = given
gives_next (Err (stop.WrongShape path)) met r x next more front is given = next_part met r x next more bad_pattern (WrongShape path) front is given
gives_next (Err (stop.Fault f)) met r x next more front is given = next_part met r x next more bad_pattern (Own f) front is given

-- one that stops in a part behind which no expression is met
pub gives_made : {A B : Type 0} (e : Stop LoadFault) (met : List Placed) (r : Reading A LoadFault) (next : A → Reading B LoadFault) → GivesOf (Err e) met r → GivesOf (Err e) met (and_then r next)
gives_made stop.Memory met r next given = given
gives_made (stop.WrongShape path) met r next given = made_of met r next bad_pattern (WrongShape path) given
gives_made (stop.Fault f) met r next given = made_of met r next bad_pattern (Own f) given

pub gives_last : {A B : Type 0} (result : Result B (Stop LoadFault)) (met : List Placed) (r : Reading A LoadFault) (x : A) (next : A → Reading B LoadFault) → AllTaken met → r ≡ Ok x → Gives result (next x)
    → GivesOf result met (and_then r next)
gives_last (Ok y) met r x next front is given = (front, ap (λ r. and_then r next) is ∙ given)
gives_last (Err stop.Memory) met r x next front is given = given
gives_last (Err (stop.WrongShape path)) met r x next front is given = inl (front, ap (λ r. and_then r next) is ∙ given)
gives_last (Err (stop.Fault f)) met r x next front is given = inl (front, ap (λ r. and_then r next) is ∙ given)

-- what a reader gives of what is left, it gives of the whole
abbrev pub IsRest : {A : Type 0} → List Placed → Reading A LoadFault → List Placed → Reading A LoadFault → Type 0
IsRest met whole more rest = (front : List Placed) × AllTaken front × (met ≡ front ++ more) × (whole ≡ rest)

pub gives_rest : {A : Type 0} (e : Stop LoadFault) (met more : List Placed) (whole rest : Reading A LoadFault) → IsRest met whole more rest → GivesOf (Err e) more rest → GivesOf (Err e) met whole
gives_rest stop.Memory met more whole rest left given = given
gives_rest (stop.WrongShape path) met more whole rest (front, taken, is, same) given =
    subst (λ m. GivesOf (Err (stop.WrongShape path)) m whole) (sym is)
    (subst (λ r. GivesOf (Err (stop.WrongShape path)) (front ++ more) r) (sym same) (behind_taken front more rest bad_pattern (WrongShape path) taken given))
gives_rest (stop.Fault f) met more whole rest (front, taken, is, same) given =
    subst (λ m. GivesOf (Err (stop.Fault f)) m whole) (sym is)
    (subst (λ r. GivesOf (Err (stop.Fault f)) (front ++ more) r) (sym same) (behind_taken front more rest bad_pattern (Own f) taken given))
