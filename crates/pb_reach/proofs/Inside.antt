-- Words among bytes.
use Rattle.std.proofs.Common.{◌≡◌, ℕ, zero, suc, Bool, true, false, ◌==◌, ◌&&◌, List, [], ◌∷◌, take, drop, refl, sym, subst, ◌∙◌, eq-eqb}
use Rattle.std.specs.Str.{bytes_eq}
use Rattle.std.proofs.lemmas.Slice.Eq.{bytes_eq-Decides}
use Rattle.pb_mentions.specs.Mentions.{begins, has_inside}
use Rattle.pb_reach.proofs.Tests.{neither, joined}

and_later : (t x y : Bool) → (x ≡ false → y ≡ false) → (t && x) ≡ false → (t && y) ≡ false
and_later true x y f e = f e
and_later false x y f e = refl

-- where bytes don't begin with the word, nor do the first of them
begins_first : (word : List ℕ) (n : ℕ) (bs : List ℕ) → begins word bs ≡ false → begins word (take n bs) ≡ false
begins_first [] n bs e = e
begins_first (w ∷ ws) zero bs e = refl
begins_first (w ∷ ws) (suc n) [] e = refl
begins_first (w ∷ ws) (suc n) (b ∷ bs) e = and_later (b == w) (begins ws bs) (begins ws (take n bs)) (begins_first ws n bs) e

-- a part of bytes without the word is without it
pub inside_take : (word : List ℕ) (n : ℕ) (bs : List ℕ) → has_inside word bs ≡ false → has_inside word (take n bs) ≡ false
inside_take word zero bs e = refl
inside_take word (suc n) [] e = refl
inside_take word (suc n) (b ∷ bs) e =
    let both = neither (begins word (b ∷ bs)) (has_inside word bs) e in
    joined (begins word (b ∷ take n bs)) (has_inside word (take n bs)) (begins_first word (suc n) (b ∷ bs) both.0) (inside_take word n bs both.1)

pub inside_drop : (word : List ℕ) (n : ℕ) (bs : List ℕ) → has_inside word bs ≡ false → has_inside word (drop n bs) ≡ false
inside_drop word zero bs e = e
inside_drop word (suc n) [] e = refl
inside_drop word (suc n) (b ∷ bs) e = inside_drop word n bs (neither (begins word (b ∷ bs)) (has_inside word bs) e).1

-- bytes begin with the first of them
and_true : (t x : Bool) → t ≡ true → x ≡ true → (t && x) ≡ true
and_true true x e f = f
and_true false x e f = e

begins_own : (n : ℕ) (bs : List ℕ) → begins (take n bs) bs ≡ true
begins_own zero bs = refl
begins_own (suc n) [] = refl
begins_own (suc n) (b ∷ bs) = and_true (b == b) (begins (take n bs) bs) (eq-eqb b b refl) (begins_own n bs)

-- so the first of bytes without the word are another word
pub other_word : (word : List ℕ) (n b : ℕ) (bs : List ℕ) → has_inside word (b ∷ bs) ≡ false → bytes_eq (take n (b ∷ bs)) word ≡ false
other_word word n b bs e = by_test (bytes_eq (take n (b ∷ bs)) word) refl
  where
    by_test : (t : Bool) → bytes_eq (take n (b ∷ bs)) word ≡ t → t ≡ false
    by_test false is = refl
    by_test true is =
        let same : take n (b ∷ bs) ≡ word = (bytes_eq-Decides (take n (b ∷ bs)) word).0 is in
        let begun : begins word (b ∷ bs) ≡ true = subst (λ w. begins w (b ∷ bs) ≡ true) same (begins_own n (b ∷ bs)) in
        sym begun ∙ (neither (begins word (b ∷ bs)) (has_inside word bs) e).0
