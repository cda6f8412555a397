-- Words among bytes: none begins where its first letter doesn't stand.
use Rattle.std.proofs.Common.{◌≡◌, ℕ, zero, suc, ◌<◌, ◌≤◌, ◌==◌, ◌&&◌, ◌||◌, Bool, true, false, List, [], ◌∷◌, Some, None, length, drop, refl, ap, ◌∙◌, arith}
use Rattle.std.proofs.lemmas.List.{drop_all}
use Rattle.std.specs.Prelude.{slice_index}
use Rattle.memchr.specs.Find.{IsFirstByte, is_byte}
use Rattle.pb_mentions.specs.Mentions.{begins, has_inside}

not_true : (x : Bool) → ¬ (x ≡ true) → x ≡ false
not_true true other = absurd (other refl)
not_true false other = refl

-- the search over bytes, behind those that aren't the first letter
inside_past : (letter : ℕ) (letters bs : List ℕ) (k : ℕ) → k ≤ length bs → ((i : ℕ) → i < k → ¬ ((slice_index bs i == letter) ≡ true))
    → has_inside (letter ∷ letters) bs ≡ has_inside (letter ∷ letters) (drop k bs)
inside_past letter letters bs zero le others = refl
inside_past letter letters [] (suc k) le others = absurd (omega arith)
inside_past letter letters (b ∷ bs) (suc k) le others =
    let other : (b == letter) ≡ false = not_true (b == letter) (others 0 (omega arith)) in
    ap (λ t. (t && begins letters bs) || has_inside (letter ∷ letters) bs) other
    ∙ inside_past letter letters bs k (omega arith) (λ i lt. others (suc i) (omega arith))

pub inside_at : (word bs : List ℕ) (at : ℕ) → 1 ≤ length word → IsFirstByte (is_byte (slice_index word 0)) bs (Some at) → has_inside word bs ≡ has_inside word (drop at bs)
inside_at [] bs at le h = absurd (omega arith)
inside_at (letter ∷ letters) bs at le h = inside_past letter letters bs at (omega (arith, h.0.high)) (λ i lt. h.0.before i (omega arith) lt)

pub inside_none : (word bs : List ℕ) → 1 ≤ length word → IsFirstByte (is_byte (slice_index word 0)) bs None → has_inside word bs ≡ false
inside_none [] bs le h = absurd (omega arith)
inside_none (letter ∷ letters) bs le h =
    inside_past letter letters bs (length bs) (omega arith) (λ i lt. h i (omega arith) lt) ∙ ap (has_inside (letter ∷ letters)) (drop_all (length bs) bs (omega arith))
