-- What stands in a list, and what doesn't.
use Rattle.std.proofs.Common.{◌≡◌, ℕ, zero, suc, ◌<◌, ◌≤◌, List, [], ◌∷◌, length, refl, sym, arith}
use Rattle.std.specs.Prelude.{Option, Some, None, IfSome, slice_get}
use Rattle.pb_plan.specs.Plan.{PlayOf}

here : (plays : List PlayOf) (n : ℕ) (play : PlayOf) → slice_get plays n ≡ Some play → n < length plays
here [] n play e = cc
here (p ∷ plays) zero play e = omega arith
here (p ∷ plays) (suc n) play e = omega (arith, here plays n play e)

pub below : (plays : List PlayOf) (n : ℕ) (found : Option PlayOf) → found ≡ slice_get plays n → length plays ≤ 256 → IfSome found (λ _. n < 256)
below plays n None e b = tt
below plays n (Some play) e b = omega (arith, here plays n play (sym e), b)

pub past : (names : List (List ℕ)) (n : ℕ) → length names ≤ n → None ≡ slice_get names n
past [] n b = refl
past (name ∷ names) zero b = absurd (omega arith)
past (name ∷ names) (suc n) b = past names n (omega arith)
