-- The least host of a set.
use Rattle.std.proofs.Common.{◌≡◌, ◌<◌, ℕ, length, arith, Bool, true, false, ◌||◌, List, [], ◌∷◌, zero, suc, refl}
use Rattle.std.specs.Prelude.{Some, slice_get}
use Rattle.std.proofs.lemmas.Option.{slice_get_within}
use Rattle.pb_planes.specs.Set.{has_some, is_in, IsNextFrom, HasNoneFrom}

-- a number in a set is a member
in_set : (set : List Bool) (i : ℕ) → is_in set i ≡ true → slice_get set i ≡ Some true
in_set [] i e = cc
in_set (b ∷ set) zero e = rw e refl
in_set (b ∷ set) (suc i) e = in_set set i e

pub member : (set : List Bool) (from at : ℕ) → IsNextFrom set from at → slice_get set at ≡ Some true
member set from at next = in_set set at next.1

-- a member is below the width
pub member_below : (set : List Bool) (at : ℕ) → slice_get set at ≡ Some true → at < length set
member_below set at e = slice_get_within set at true e

-- a set with a member has one from 0 on
none_some : (set : List Bool) → ((i : ℕ) → is_in set i ≡ false) → has_some set ≡ false
none_some [] none = refl
none_some (b ∷ set) none = both b (has_some set) (none zero) (none_some set (λ i. none (suc i)))
  where
    both : (a b : Bool) → a ≡ false → b ≡ false → (a || b) ≡ false
    both true b e f = e
    both false b e f = f

pub some_next : (set : List Bool) → HasNoneFrom set 0 → has_some set ≡ false
some_next set none = none_some set (λ i. none i (omega arith))
