-- The search for a text in another.
use Rattle.std.proofs.Common.{◌≡◌, ℕ, Bool, true, false, ◌==◌, ◌&&◌, ◌||◌, MatchBool, List, [], ◌∷◌, ◌++◌, None, refl, ap, subst, sym, ◌∙◌, arith}
use Rattle.std.proofs.lemmas.Bool.Decides.{nat_tests}
use Rattle.std.proofs.lemmas.Str.Pattern.{contains_text}
use Rattle.std.specs.Bool.{one_answer}
use Rattle.std.specs.Str.Iter.{HasSubslice}
use Rattle.std.specs.Str.Pattern.{HasMatch, FindsText}
use Rattle.pb_operators.specs.Operators.{begins_with, occurs}
use Rattle.pb_operators.proofs.Same.{left, right, both}

begins_is : (s t : List ℕ) → begins_with s t ≡ true → (b : List ℕ) × (t ≡ s ++ b)
begins_is [] t h = (t, refl)
begins_is (x ∷ xs) [] h = cc
begins_is (x ∷ xs) (y ∷ ys) h =
    let rest = begins_is xs ys (right (x == y) (begins_with xs ys) h) in
    let e : x ≡ y = let t = left (x == y) (begins_with xs ys) h in grind (arith, nat_tests) in
    (rest.0, λ i. sym e i ∷ rest.1 i)

begins_has : (s b : List ℕ) → begins_with s (s ++ b) ≡ true
begins_has [] b = refl
begins_has (x ∷ xs) b = both (x == x) (begins_with xs (xs ++ b)) (grind (arith, nat_tests)) (begins_has xs b)

or_true : (a b : Bool) → b ≡ true → (a || b) ≡ true
or_true true b h = refl
or_true false b h = h

or_left : (a b : Bool) → a ≡ true → (a || b) ≡ true
or_left true b h = refl
or_left false b h = cc

occurs_here : (s t : List ℕ) → begins_with s t ≡ true → occurs s t ≡ true
occurs_here s [] h = h
occurs_here s (b ∷ bs) h = or_left (begins_with s (b ∷ bs)) (occurs s bs) h

occurs_has : (s a b : List ℕ) → occurs s (a ++ (s ++ b)) ≡ true
occurs_has s [] b = occurs_here s (s ++ b) (begins_has s b)
occurs_has s (x ∷ a) b = or_true (begins_with s (x ∷ (a ++ (s ++ b)))) (occurs s (a ++ (s ++ b))) (occurs_has s a b)

occurs_is : (s t : List ℕ) → occurs s t ≡ true → HasSubslice t s
occurs_is s [] h = let b = begins_is s [] h in ([], b.0, b.1)
occurs_is s (x ∷ t) h = by_front (begins_with s (x ∷ t)) refl (occurs_is s t) h
  where
    by_front : (r : Bool) → begins_with s (x ∷ t) ≡ r → (occurs s t ≡ true → HasSubslice t s) → (r || occurs s t) ≡ true → HasSubslice (x ∷ t) s
    by_front true e later k = let b = begins_is s (x ∷ t) e in ([], b.0, b.1)
    by_front false e later k = let b = later k in (x ∷ b.0, b.1, ap (λ u. x ∷ u) b.2)

pub occurs_answers : (r : Bool) (s t : List ℕ) → MatchBool r (HasMatch (FindsText s) t) (FindsText s t None) → r ≡ occurs s t
occurs_answers r s t h = one_answer r (occurs s t) (contains_text r s t h) (occurs_is s t, λ (k : HasSubslice t s). subst (λ u. occurs s u ≡ true) (sym k.2) (occurs_has s k.0 k.1))
