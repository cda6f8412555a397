-- What stood under a name stands there again once it is put back.
use Rattle.std.proofs.Common.{◌≡◌, ℕ, cond, List, [], ◌∷◌, length, Ordering, Less, Equal, Greater, nat_cmp, refl, sym, ◌∙◌, ap, arith}
use Rattle.std.specs.Prelude.{Option, Some, None, IsSome, Result, Ok, Err, IfOk, OnOk}
use Rattle.std.specs.Cmp.Lexicographic.{slice_cmp}
use Rattle.std.specs.Ordering.{is_eq, match_ordering}
use Rattle.std.proofs.lemmas.Cmp.{nat_list_cmp_total, tied_itself}
use Rattle.pb_value.specs.Datum.{Datum, put, value_at}
use Rattle.pb_facts.specs.Stood.{StoodThere, without}
use Rattle.pb_value.proofs.Puts.{value_at-put}

-- ---- what a put hands back
pub stood_before : {E : Type 0} (result : Result (Option Datum) E) (name : List ℕ) (value : Datum) (old new : List (List ℕ × Datum)) → IfOk result (λ before. before ≡ value_at name old) → IfOk result (λ before. IsSome before → length new ≡ length old)
    → OnOk result (new ≡ put name value old) → IfOk result (λ before. StoodThere name before value old)
stood_before (Ok before) name value old new b s n = record { stood = sym b; same = λ some. ap length (sym n) ∙ s some }
stood_before (Err e) name value old new b s n = tt

-- ---- a value that is put back
longer : {A : Type 0} (x : A) (xs : List A) → length (x ∷ xs) ≡ length xs → ⊥
longer x xs e = omega (arith, e)

put_again : (k : List ℕ) (v o : Datum) (ms : List (List ℕ × Datum)) → value_at k ms ≡ Some o → length (put k v ms) ≡ length ms → put k o (put k v ms) ≡ ms
put_again k v o [] e l = cc
put_again k v o (m ∷ ms) e l = by_order (slice_cmp nat_cmp k m.0) refl e l (put_again k v o ms)
  where
    by_order : (c : Ordering) → slice_cmp nat_cmp k m.0 ≡ c → cond (is_eq c) (Some m.1) (value_at k ms) ≡ Some o
        → length (match_ordering c ((k, v) ∷ m ∷ ms) ((m.0, v) ∷ ms) (m ∷ put k v ms)) ≡ length (m ∷ ms)
        → (value_at k ms ≡ Some o → length (put k v ms) ≡ length ms → put k o (put k v ms) ≡ ms)
        → put k o (match_ordering c ((k, v) ∷ m ∷ ms) ((m.0, v) ∷ ms) (m ∷ put k v ms)) ≡ m ∷ ms
    by_order Less c f n rest = absurd (longer (k, v) (m ∷ ms) n)
    by_order Equal c f n rest =
        let same : o ≡ m.1 = cc in
        ap (λ (order : Ordering). match_ordering order ((k, o) ∷ (m.0, v) ∷ ms) ((m.0, o) ∷ ms) ((m.0, v) ∷ put k o ms)) c
        ∙ ap (λ (d : Datum). (m.0, d) ∷ ms) same
    by_order Greater c f n rest =
        ap (λ (order : Ordering). match_ordering order ((k, o) ∷ m ∷ put k v ms) ((m.0, o) ∷ put k v ms) (m ∷ put k o (put k v ms))) c
        ∙ ap (λ (behind : List (List ℕ × Datum)). m ∷ behind) (rest f (let shorter = n in omega (arith, shorter)))

-- and a name that is taken out again
cut_again : (k : List ℕ) (v : Datum) (ms : List (List ℕ × Datum)) → value_at k ms ≡ None → without k (put k v ms) ≡ ms
cut_again k v [] e = rw (tied_itself nat_list_cmp_total k) refl
cut_again k v (m ∷ ms) e = by_order (slice_cmp nat_cmp k m.0) refl e (cut_again k v ms)
  where
    by_order : (c : Ordering) → slice_cmp nat_cmp k m.0 ≡ c → cond (is_eq c) (Some m.1) (value_at k ms) ≡ None → (value_at k ms ≡ None → without k (put k v ms) ≡ ms)
        → without k (match_ordering c ((k, v) ∷ m ∷ ms) ((m.0, v) ∷ ms) (m ∷ put k v ms)) ≡ m ∷ ms
    by_order Less c f rest = rw (tied_itself nat_list_cmp_total k) refl
    by_order Equal c f rest = cc
    by_order Greater c f rest =
        ap (λ (order : Ordering). cond (is_eq order) (put k v ms) (m ∷ without k (put k v ms))) c
        ∙ ap (λ (behind : List (List ℕ × Datum)). m ∷ behind) (rest f)

none_some : (found : Option Datum) → found ≡ None → IsSome found → ⊥
none_some None e some = cc
none_some (Some d) e some = cc

pub not_refused : (found : Option Datum) → found ≡ None → (new old : List (List ℕ × Datum)) → IsSome found → new ≡ old
not_refused found e new old some = absurd (none_some found e some)

some_of : (found : Option Datum) (v : Datum) → found ≡ Some v → IsSome found
some_of None v e = cc
some_of (Some d) v e = refl

pub back_some : (k : List ℕ) (before : Option Datum) (o v : Datum) (was now new : List (List ℕ × Datum)) → before ≡ Some o → StoodThere k before v was → now ≡ put k v was → (IsSome (value_at k now) → new ≡ put k o now) → new ≡ was
back_some k before o v was now new b s n w =
    let there : value_at k now ≡ Some v = ap (value_at k) n ∙ value_at-put k v was in
    w (some_of (value_at k now) v there) ∙ ap (put k o) n ∙ put_again k v o was (s.stood ∙ b) (s.same (some_of before o b))

pub back_none : (k : List ℕ) (before : Option Datum) (v : Datum) (was now new : List (List ℕ × Datum)) → before ≡ None → StoodThere k before v was → now ≡ put k v was → new ≡ without k now → new ≡ was
back_none k before v was now new b s n w = w ∙ ap (without k) n ∙ cut_again k v was (s.stood ∙ b)
