-- The expressions that are met in the parts of a reading, with the paths of their hosts, and the first fault of the whole.
use Rattle.std.proofs.Common.{◌≡◌, ℕ, List, [], ◌∷◌, ◌++◌, Result, Ok, inl, inr, refl, sym, ap, subst}
use Rattle.pb_value.specs.Reading.{and_then}
use Rattle.pb_patterns.specs.Expressions.{AreTaken, HasRefused}
use Rattle.pb_play_reading.specs.Refusals.{Placed, met_at, met_behind, AllTaken, HasRefusedAt, IsFirstFaultAt}

pub taken_append : (xs ys : List Placed) → AllTaken xs → AllTaken ys → AllTaken (xs ++ ys)
taken_append [] ys front rest = rest
taken_append (x ∷ xs) ys front rest = (front.0, taken_append xs ys front.1 rest)

refused_front : (xs ys : List Placed) (path : List ℕ) → HasRefusedAt xs path → HasRefusedAt (xs ++ ys) path
refused_front [] ys path bad = absurd bad
refused_front (x ∷ xs) ys path (inl here) = inl here
refused_front (x ∷ xs) ys path (inr later) = inr (later.0, refused_front xs ys path later.1)

refused_rest : (xs ys : List Placed) (path : List ℕ) → AllTaken xs → HasRefusedAt ys path → HasRefusedAt (xs ++ ys) path
refused_rest [] ys path front bad = bad
refused_rest (x ∷ xs) ys path front bad = inr (front.0, refused_rest xs ys path front.1 bad)

-- the fault of a first part is the fault of the whole
pub first_part : {A B F : Type 0} (met : List Placed) (r : Result A F) (next : A → Result B F) (more : A → List Placed) (of_refused : List ℕ → F) (e : F) → IsFirstFaultAt met r of_refused e
    → IsFirstFaultAt (met ++ met_behind r more) (and_then r next) of_refused e
first_part met r next more of_refused e (inl (taken, is)) =
    inl (subst (λ r. AllTaken (met ++ met_behind r more)) (sym is) (taken_append met [] taken tt), ap (λ r. and_then r next) is)
first_part met r next more of_refused e (inr (path, is, bad)) = inr (path, is, refused_front met (met_behind r more) path bad)

pub behind_taken : {B F : Type 0} (met more : List Placed) (r : Result B F) (of_refused : List ℕ → F) (e : F) → AllTaken met → IsFirstFaultAt more r of_refused e → IsFirstFaultAt (met ++ more) r of_refused e
behind_taken met more r of_refused e front (inl (taken, is)) = inl (taken_append met more front taken, is)
behind_taken met more r of_refused e front (inr (path, is, bad)) = inr (path, is, refused_rest met more path front bad)

-- and so is the fault of what is read behind a first part that is taken
pub next_part : {A B F : Type 0} (met : List Placed) (r : Result A F) (x : A) (next : A → Result B F) (more : A → List Placed) (of_refused : List ℕ → F) (e : F) → AllTaken met → r ≡ Ok x
    → IsFirstFaultAt (more x) (next x) of_refused e → IsFirstFaultAt (met ++ met_behind r more) (and_then r next) of_refused e
next_part met r x next more of_refused e front is bad =
    subst (λ r. IsFirstFaultAt (met ++ met_behind r more) (and_then r next) of_refused e) (sym is) (behind_taken met (more x) (next x) of_refused e front bad)

pub next_taken : {A F : Type 0} (met : List Placed) (r : Result A F) (x : A) (more : A → List Placed) → AllTaken met → r ≡ Ok x → AllTaken (more x) → AllTaken (met ++ met_behind r more)
next_taken met r x more front is rest = subst (λ r. AllTaken (met ++ met_behind r more)) (sym is) (taken_append met (more x) front rest)

-- what is made of a value changes no fault
pub made_of : {A B F : Type 0} (met : List Placed) (r : Result A F) (next : A → Result B F) (of_refused : List ℕ → F) (e : F) → IsFirstFaultAt met r of_refused e → IsFirstFaultAt met (and_then r next) of_refused e
made_of met r next of_refused e (inl (taken, is)) = inl (taken, ap (λ r. and_then r next) is)
made_of met r next of_refused e (inr bad) = inr bad

-- the expressions of one pattern
pub taken_at : (path : List ℕ) (sources : List (List ℕ)) → AreTaken sources → AllTaken (met_at path sources)
taken_at path [] taken = tt
taken_at path (source ∷ sources) taken = (taken.0, taken_at path sources taken.1)

pub refused_at : (path : List ℕ) (sources : List (List ℕ)) → HasRefused sources → HasRefusedAt (met_at path sources) path
refused_at path [] bad = absurd bad
refused_at path (source ∷ sources) (inl here) = inl (here, refl)
refused_at path (source ∷ sources) (inr later) = inr (later.0, refused_at path sources later.1)
