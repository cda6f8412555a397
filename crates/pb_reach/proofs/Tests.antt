-- Tests of which one or none holds.
use Rattle.std.proofs.Common.{◌≡◌, Bool, true, false, ◌&&◌, ◌||◌, List, [], ◌∷◌, ◌++◌, ℕ, zero, suc, drop, refl, sym, true≢false}
use Rattle.std.specs.List.{list_any}

pub neither : (a b : Bool) → (a || b) ≡ false → (a ≡ false) × (b ≡ false)
neither false false e = (refl, refl)
neither false true e = (refl, e)
neither true b e = absurd (true≢false e)

pub none_of : (a b c : Bool) → (a || b || c) ≡ false → (a ≡ false) × (b ≡ false) × (c ≡ false)
none_of a b c e = let front = neither (a || b) c e in let both = neither a b front.0 in (both.0, both.1, front.1)

pub joined : (a b : Bool) → a ≡ false → b ≡ false → (a || b) ≡ false
joined false b e f = f
joined true b e f = absurd (true≢false e)

-- the first two of three, the other way round
pub swapped : (a b c : Bool) → (a || (b || c)) ≡ false → ((b || a) || c) ≡ false
swapped false false c e = e
swapped false true c e = absurd (true≢false e)
swapped true b c e = absurd (true≢false e)

pub where_so : (a b : Bool) → a ≡ true → (a && b) ≡ false → b ≡ false
where_so true b e f = f
where_so false b e f = absurd (true≢false (sym e))

-- a test that no element of a list passes
module _ {A : Type 0} (test : A → Bool) where
  pub none_joined : (xs ys : List A) → list_any test xs ≡ false → list_any test ys ≡ false → list_any test (xs ++ ys) ≡ false
  none_joined [] ys e f = f
  none_joined (x ∷ xs) ys e f = let both = neither (test x) (list_any test xs) e in joined (test x) (list_any test (xs ++ ys)) both.0 (none_joined xs ys both.1 f)

  pub none_behind : (n : ℕ) (xs : List A) → list_any test xs ≡ false → list_any test (drop n xs) ≡ false
  none_behind zero xs e = e
  none_behind (suc n) [] e = refl
  none_behind (suc n) (x ∷ xs) e = none_behind n xs (neither (test x) (list_any test xs) e).1
