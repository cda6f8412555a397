-- What stands under a name once a value was put under one.
use Rattle.std.proofs.Common.{◌≡◌, ℕ, false, List, [], ◌∷◌, ◌++◌, Some, Ordering, Less, Equal, Greater, nat_cmp, refl, ap, sym, ◌∙◌}
use Rattle.std.specs.Ordering.{is_eq, match_ordering}
use Rattle.std.specs.Cmp.Lexicographic.{slice_cmp}
use Rattle.std.specs.List.{AllByRecursion}
use Rattle.std.proofs.lemmas.Cmp.{nat_list_cmp_total, tied_itself}
use Rattle.std.proofs.lemmas.Map.Text.{is_eq-slice_cmp}
use Rattle.std.proofs.lemmas.Slice.Eq.{bytes_eq-Decides}
use Rattle.pb_value.specs.Datum.{put, value_at}

same_bytes : (j k : List ℕ) → slice_cmp nat_cmp j k ≡ Equal → j ≡ k
same_bytes j k e = (bytes_eq-Decides j k).0 (sym (is_eq-slice_cmp j k) ∙ ap is_eq e)

at_itself : {X : Type 0} (k : List ℕ) (x : X) (m : List ℕ × X) (ms : List (List ℕ × X)) (o : Ordering) → slice_cmp nat_cmp k m.0 ≡ o → value_at k (put k x ms) ≡ Some x
    → value_at k (match_ordering o ((k, x) ∷ m ∷ ms) ((m.0, x) ∷ ms) (m ∷ put k x ms)) ≡ Some x
at_itself k x m ms Less e h = rw (tied_itself nat_list_cmp_total k)
at_itself k x m ms Equal e h = rw e
at_itself k x m ms Greater e h = rw e h

-- the name has the value
pub value_at-put : {X : Type 0} (k : List ℕ) (x : X) (ms : List (List ℕ × X)) → value_at k (put k x ms) ≡ Some x
value_at-put k x [] = rw (tied_itself nat_list_cmp_total k)
value_at-put k x (m ∷ ms) = at_itself k x m ms (slice_cmp nat_cmp k m.0) refl (value_at-put k x ms)

at_other : {X : Type 0} (j k : List ℕ) (x : X) (m : List ℕ × X) (ms : List (List ℕ × X)) (o : Ordering) → is_eq (slice_cmp nat_cmp j k) ≡ false → slice_cmp nat_cmp k m.0 ≡ o → value_at j (put k x ms) ≡ value_at j ms
    → value_at j (match_ordering o ((k, x) ∷ m ∷ ms) ((m.0, x) ∷ ms) (m ∷ put k x ms)) ≡ value_at j (m ∷ ms)
at_other j k x m ms Less n e h = rw n
at_other j k x m ms Equal n e h = rw (← same_bytes k m.0 e, n)
at_other j k x m ms Greater n e h = rw h

-- another name has what it had
pub value_at-put_other : {X : Type 0} (j k : List ℕ) (x : X) (ms : List (List ℕ × X)) → is_eq (slice_cmp nat_cmp j k) ≡ false → value_at j (put k x ms) ≡ value_at j ms
value_at-put_other j k x [] n = rw n
value_at-put_other j k x (m ∷ ms) n = at_other j k x m ms (slice_cmp nat_cmp k m.0) n refl (value_at-put_other j k x ms n)

-- a name that is above all others goes last
pub put-above : {X : Type 0} (k : List ℕ) (x : X) (ms : List (List ℕ × X)) → AllByRecursion (λ m. slice_cmp nat_cmp k m.0 ≡ Greater) ms → put k x ms ≡ ms ++ (k, x) ∷ []
put-above k x [] h = refl
put-above k x (m ∷ ms) h = rw h.0 (ap (λ t. m ∷ t) (put-above k x ms h.1))
