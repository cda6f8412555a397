-- The sizes of the batches that are left.
use Rattle.std.proofs.Common.{◌≡◌, ℕ, zero, suc, ◌+◌, ◌<◌, ◌≤◌, true, false, List, [], ◌∷◌, length, drop, refl, ◌∙◌, ap, arith}
use Rattle.std.specs.Prelude.{Some, None, slice_get}
use Rattle.pb_hosts.specs.Batches.{has_batch_left}

pub some_left : (sizes : List ℕ) (n : ℕ) → n < length sizes → has_batch_left (drop n sizes) ≡ true
some_left [] n e = absurd (omega (arith, e))
some_left (size ∷ sizes) zero e = refl
some_left (size ∷ sizes) (suc n) e = some_left sizes n (omega (arith, e))

pub none_left : (sizes : List ℕ) (n : ℕ) → length sizes ≤ n → has_batch_left (drop n sizes) ≡ false
none_left [] zero e = refl
none_left [] (suc n) e = refl
none_left (size ∷ sizes) zero e = absurd (omega (arith, e))
none_left (size ∷ sizes) (suc n) e = none_left sizes n (omega (arith, e))

pub first_left : (sizes : List ℕ) (n : ℕ) → slice_get (drop n sizes) 0 ≡ slice_get sizes n
first_left [] zero = refl
first_left [] (suc n) = refl
first_left (size ∷ sizes) zero = refl
first_left (size ∷ sizes) (suc n) = first_left sizes n

one_behind : (sizes : List ℕ) (n : ℕ) → drop (suc n) sizes ≡ drop 1 (drop n sizes)
one_behind [] zero = refl
one_behind [] (suc n) = refl
one_behind (size ∷ sizes) zero = refl
one_behind (size ∷ sizes) (suc n) = one_behind sizes n

pub next_left : (sizes : List ℕ) (n : ℕ) → drop (n + 1) sizes ≡ drop 1 (drop n sizes)
next_left sizes n = ap (λ k. drop k sizes) (let one : n + 1 ≡ suc n = omega arith in one) ∙ one_behind sizes n

pub none_more : (sizes : List ℕ) (n : ℕ) → length sizes ≤ n → drop n sizes ≡ drop 1 (drop n sizes)
none_more [] zero e = refl
none_more [] (suc n) e = refl
none_more (size ∷ sizes) zero e = absurd (omega (arith, e))
none_more (size ∷ sizes) (suc n) e = none_more sizes n (omega (arith, e))

-- where some are left there is a first one
pub later_some : (sizes_left : List ℕ) → has_batch_left sizes_left ≡ true → slice_get sizes_left 0 ≡ None → ⊥
later_some [] e f = cc
later_some (size ∷ sizes_left) e f = cc

pub later_one : (sizes_left : List ℕ) (size : ℕ) → slice_get sizes_left 0 ≡ Some size → length sizes_left ≡ suc (length (drop 1 sizes_left))
later_one [] size e = cc
later_one (first ∷ sizes_left) size e = refl
