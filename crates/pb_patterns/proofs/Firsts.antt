-- The expressions that are met in the parts of a reading, and the first fault of the whole.
use Rattle.std.proofs.Common.{◌≡◌, ◌≢◌, ℕ, ◌+◌, ◌<◌, true, List, [], ◌∷◌, ◌++◌, Result, Ok, Err, inl, inr, refl, sym, ◌∙◌, ap, subst, length, get_or, take, drop}
use Rattle.std.proofs.lemmas.List.{take_more}
use Rattle.std.specs.Prelude.{OnOk, IfErr}
use Rattle.pb_value.specs.Reading.{and_then, map_ok}
use Rattle.pb_patterns.specs.declared.element.Element.{Element}
use Rattle.pb_patterns.specs.declared.fault.PatFault.{PatFault}
use Rattle.pb_patterns.specs.declared.fault.PatFault.TheVariants as fault
use Rattle.pb_patterns.specs.Expressions.{IsTaken, IsRefused, AreTaken, HasRefused, IsFirstFault, behind}
use Rattle.pb_patterns.specs.Reading.{is_regex, behind_mark, what_of, expression_in, each_expression, element_of, each_of}
use Rattle.pb_patterns.proofs.Faults.{one_first, cut_at}

pub taken_append : (xs ys : List (List ℕ)) → AreTaken xs → AreTaken ys → AreTaken (xs ++ ys)
taken_append [] ys front rest = rest
taken_append (x ∷ xs) ys front rest = (front.0, taken_append xs ys front.1 rest)

pub taken_front : (xs ys : List (List ℕ)) → AreTaken (xs ++ ys) → AreTaken xs
taken_front [] ys all = tt
taken_front (x ∷ xs) ys all = (all.0, taken_front xs ys all.1)

pub taken_rest : (xs ys : List (List ℕ)) → AreTaken (xs ++ ys) → AreTaken ys
taken_rest [] ys all = all
taken_rest (x ∷ xs) ys all = taken_rest xs ys all.1

pub refused_front : (xs ys : List (List ℕ)) → HasRefused xs → HasRefused (xs ++ ys)
refused_front [] ys bad = absurd bad
refused_front (x ∷ xs) ys (inl here) = inl here
refused_front (x ∷ xs) ys (inr later) = inr (later.0, refused_front xs ys later.1)

pub refused_rest : (xs ys : List (List ℕ)) → AreTaken xs → HasRefused ys → HasRefused (xs ++ ys)
refused_rest [] ys front bad = bad
refused_rest (x ∷ xs) ys front bad = inr (front.0, refused_rest xs ys front.1 bad)

-- the fault of a first part is the fault of the whole
pub first_part : {A B F : Type 0} (met : List (List ℕ)) (r : Result A F) (next : A → Result B F) (more : A → List (List ℕ)) (of_refused e : F) → IsFirstFault met r of_refused e
    → IsFirstFault (met ++ behind r more) (and_then r next) of_refused e
first_part met r next more of_refused e (inl (taken, is)) =
    inl (subst (λ r. AreTaken (met ++ behind r more)) (sym is) (taken_append met [] taken tt), ap (λ r. and_then r next) is)
first_part met r next more of_refused e (inr (is, bad)) = inr (is, refused_front met (behind r more) bad)

pub behind_taken : {B F : Type 0} (met more : List (List ℕ)) (r : Result B F) (of_refused e : F) → AreTaken met → IsFirstFault more r of_refused e → IsFirstFault (met ++ more) r of_refused e
behind_taken met more r of_refused e front (inl (taken, is)) = inl (taken_append met more front taken, is)
behind_taken met more r of_refused e front (inr (is, bad)) = inr (is, refused_rest met more front bad)

-- and so is the fault of what is read behind a first part that is taken
pub next_part : {A B F : Type 0} (met : List (List ℕ)) (r : Result A F) (x : A) (next : A → Result B F) (more : A → List (List ℕ)) (of_refused e : F) → AreTaken met → r ≡ Ok x
    → IsFirstFault (more x) (next x) of_refused e → IsFirstFault (met ++ behind r more) (and_then r next) of_refused e
next_part met r x next more of_refused e front is bad =
    subst (λ r. IsFirstFault (met ++ behind r more) (and_then r next) of_refused e) (sym is) (behind_taken met (more x) (next x) of_refused e front bad)

pub next_taken : {A F : Type 0} (met : List (List ℕ)) (r : Result A F) (x : A) (more : A → List (List ℕ)) → AreTaken met → r ≡ Ok x → AreTaken (more x) → AreTaken (met ++ behind r more)
next_taken met r x more front is rest = subst (λ r. AreTaken (met ++ behind r more)) (sym is) (taken_append met (more x) front rest)

-- what is made of a value changes no fault
pub made_of : {A B F : Type 0} (met : List (List ℕ)) (r : Result A F) (next : A → Result B F) (of_refused e : F) → IsFirstFault met r of_refused e → IsFirstFault met (and_then r next) of_refused e
made_of met r next of_refused e (inl (taken, is)) = inl (taken, ap (λ r. and_then r next) is)
made_of met r next of_refused e (inr bad) = inr bad

pub mapped : {A B F : Type 0} (f : A → B) (met : List (List ℕ)) (r : Result A F) (of_refused e : F) → IsFirstFault met r of_refused e → IsFirstFault met (map_ok f r) of_refused e
mapped f met r of_refused e (inl (taken, is)) = inl (taken, ap (map_ok f) is)
mapped f met r of_refused e (inr bad) = inr bad

-- an expression behind `~`
expression_is : (text bytes source : List ℕ) → bytes ≡ text → is_regex bytes ≡ true → source ≡ drop 1 text → expression_in text ≡ source ∷ []
expression_is text bytes source same is cut = rw (ap is_regex (sym same) ∙ is, cut) refl

pub regex_taken : {A E : Type 0} (text bytes source : List ℕ) (r : Result A E) → bytes ≡ text → is_regex bytes ≡ true → source ≡ drop 1 text → OnOk r (IsTaken source) → OnOk r (AreTaken (expression_in text))
regex_taken text bytes source (Ok m) same is cut taken = subst AreTaken (sym (expression_is text bytes source same is cut)) (taken, tt)
regex_taken text bytes source (Err e) same is cut taken = taken

pub regex_met : {A : Type 0} (text bytes source : List ℕ) (r : Result A PatFault) → bytes ≡ text → is_regex bytes ≡ true → source ≡ drop 1 text
    → IfErr r (λ e. e ≢ fault.Memory → (e ≡ fault.BadRegex) × IsRefused source)
    → IfErr r (λ e. e ≢ fault.Memory → IsFirstFault (expression_in text) (what_of text) fault.BadRegex e)
regex_met text bytes source (Ok m) same is cut bad = bad
regex_met text bytes source (Err e) same is cut bad =
    λ other. inr ((bad other).0, subst HasRefused (sym (expression_is text bytes source same is cut)) (inl (bad other).1))

-- the elements in front are taken
rest_taken : (x : List ℕ) (xs : List (List ℕ)) (e : Element) → element_of x ≡ Ok e → AreTaken (each_expression (x ∷ xs)) → AreTaken (each_expression xs)
rest_taken x xs e is all =
    taken_rest (expression_in (behind_mark x)) (each_expression xs) (subst (λ r. AreTaken (expression_in (behind_mark x) ++ behind r (λ _. each_expression xs))) is all)

fault_behind : (xs ys : List (List ℕ)) (t : List ℕ) (es : List Element) (e : PatFault) → each_of xs ≡ Ok es → AreTaken (each_expression xs)
    → IsFirstFault (expression_in (behind_mark t)) (element_of t) fault.BadRegex e
    → IsFirstFault (each_expression (xs ++ t ∷ ys)) (each_of (xs ++ t ∷ ys)) fault.BadRegex e
fault_behind [] ys t es e ok front bad =
    first_part (expression_in (behind_mark t)) (element_of t) (λ e. and_then (each_of ys) (λ es. Ok (e ∷ es))) (λ _. each_expression ys) fault.BadRegex e bad
fault_behind (x ∷ xs) ys t es e ok front bad =
    let first = one_first (element_of x) (each_of xs) es ok in
    next_part (expression_in (behind_mark x)) (element_of x) first.0 (λ e. and_then (each_of (xs ++ t ∷ ys)) (λ es. Ok (e ∷ es))) (λ _. each_expression (xs ++ t ∷ ys))
    fault.BadRegex e
    (taken_front (expression_in (behind_mark x)) (behind (element_of x) (λ _. each_expression xs)) front)
    first.2
    (
    made_of (each_expression (xs ++ t ∷ ys)) (each_of (xs ++ t ∷ ys)) (λ es. Ok (first.0 ∷ es)) fault.BadRegex e
    (fault_behind xs ys t first.1 e first.3 (rest_taken x xs first.0 first.2 front) bad)
    )

pub first_met : (texts : List (List ℕ)) (i : ℕ) (t s : List ℕ) (es : List Element) (e : PatFault) → i < length texts → t ≡ get_or texts i t → s ≡ t
    → each_of (take i texts) ≡ Ok es → AreTaken (each_expression (take i texts))
    → IsFirstFault (expression_in (behind_mark s)) (element_of s) fault.BadRegex e → IsFirstFault (each_expression texts) (each_of texts) fault.BadRegex e
first_met texts i t s es e w is same ok front bad =
    subst (λ l. IsFirstFault (each_expression l) (each_of l) fault.BadRegex e) (sym (cut_at texts i t w))
    (
    fault_behind (take i texts) (drop (i + 1) texts) (get_or texts i t) es e ok front
    (subst (λ t. IsFirstFault (expression_in (behind_mark t)) (element_of t) fault.BadRegex e) (same ∙ is) bad)
    )

none_behind : {A F : Type 0} (r : Result A F) → behind r (λ _. []) ≡ []
none_behind (Ok x) = refl
none_behind (Err e) = refl

pushed : (xs : List (List ℕ)) (t : List ℕ) (es : List Element) → each_of xs ≡ Ok es → AreTaken (each_expression xs) → AreTaken (expression_in (behind_mark t)) → AreTaken (each_expression (xs ++ t ∷ []))
pushed [] t es ok front taken =
    subst (λ l. AreTaken (expression_in (behind_mark t) ++ l)) (sym (none_behind (element_of t))) (taken_append (expression_in (behind_mark t)) [] taken tt)
pushed (x ∷ xs) t es ok front taken =
    let first = one_first (element_of x) (each_of xs) es ok in
    next_taken (expression_in (behind_mark x)) (element_of x) first.0 (λ _. each_expression (xs ++ t ∷ []))
    (taken_front (expression_in (behind_mark x)) (behind (element_of x) (λ _. each_expression xs)) front)
    first.2
    (pushed xs t first.1 first.3 (rest_taken x xs first.0 first.2 front) taken)

pub one_more_taken : (texts : List (List ℕ)) (i : ℕ) (t s : List ℕ) (es : List Element) → i < length texts → t ≡ get_or texts i t → s ≡ t → each_of (take i texts) ≡ Ok es
    → AreTaken (each_expression (take i texts)) → AreTaken (expression_in (behind_mark s)) → AreTaken (each_expression (take (i + 1) texts))
one_more_taken texts i t s es w is same ok front taken =
    subst (λ l. AreTaken (each_expression l)) (sym (take_more texts i t w))
    (pushed (take i texts) (get_or texts i t) es ok front (subst (λ t. AreTaken (expression_in (behind_mark t))) (same ∙ is) taken))
