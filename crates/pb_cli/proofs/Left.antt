-- The names of the hosts that didn't get through, from one on.
use Rattle.std.proofs.Common.{◌≡◌, ℕ, zero, suc, ◌+◌, Bool, true, false, not, List, [], ◌∷◌, ◌++◌, drop, refl, append_assoc, add-one}
use Rattle.std.specs.Prelude.{Some, slice_get, ◌||◌, if◌then◌else◌}
use Rattle.pb_cli.specs.Failed.{left_from, joined, left_if}

left_step : (through : ℕ → Bool) (names : List (List ℕ)) (i n : ℕ) (name : List ℕ) → slice_get names i ≡ Some name
    → left_from through n (drop i names) ≡ (if through n then left_from through (n + 1) (drop (suc i) names) else name ∷ left_from through (n + 1) (drop (suc i) names))
left_step through [] i n name e = cc
left_step through (x ∷ names) zero n name e = let same : x ≡ name = cc in rw same refl
left_step through (x ∷ names) (suc i) n name e = left_step through names i n name e

text_step : (through others : Bool) (name : List ℕ) (names : List (List ℕ))
    → joined others (if through then names else name ∷ names) ≡ left_if through others name ++ joined (others || not through) names
text_step true true name names = refl
text_step true false name names = refl
text_step false true name names = refl
text_step false false name names = refl

pub left_after : (through : ℕ → Bool) (names : List (List ℕ)) (i : ℕ) (others : Bool) (name before : List ℕ) → slice_get names i ≡ Some name
    → (before ++ left_if (through i) others name) ++ joined (others || not (through i)) (left_from through (i + 1) (drop (i + 1) names)) ≡ before ++ joined others (left_from through i (drop i names))
left_after through names i others name before e =
    rw (left_step through names i i name e, add-one, text_step (through i) others name (left_from through (suc i) (drop (suc i) names))) (append_assoc before _ _)
