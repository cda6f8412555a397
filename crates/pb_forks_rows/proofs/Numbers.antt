-- The number of the only seat of a pool of one fork.
use Rattle.std.proofs.Common.{◌≡◌, ℕ, List, [], ◌∷◌, map, sym, subst}
use Rattle.std.proofs.lemmas.List.Sorted.{IsPermutation-refl}
use Rattle.std.specs.Prelude.{IsPermutation}
use Rattle.pb_forks.specs.declared.seats.ForkSeat.{ForkSeat}
use Rattle.pb_forks.specs.Seats.{number, IsEachOnce}
use Rattle.pb_forks.specs.Views.{upto}

pub one_seat : (k : ℕ) (s : ForkSeat) → k ≡ 1 → number s ≡ 0 → IsEachOnce k (s ∷ [])
one_seat k s one zeroth = subst (λ n. IsPermutation (upto n) (map number (s ∷ []))) (sym one) (subst (λ n. IsPermutation (0 ∷ []) (n ∷ [])) (sym zeroth) (IsPermutation-refl (0 ∷ [])))
