-- Where a name stands among entries in byte order.
use Rattle.std.specs.Prelude.{ℕ, suc, List, [], ◌∷◌, Result, Ok, Err}
use Rattle.std.specs.Ordering.{match_ordering, nat_cmp}
use Rattle.std.specs.Cmp.Lexicographic.{slice_cmp}

-- the same answer, one entry further
abbrev pub one_further : Result ℕ ℕ → Result ℕ ℕ
one_further (Ok i) = Ok (suc i)
one_further (Err i) = Err (suc i)

-- the index of the entry under a name, or else the one at which it would have to be put
abbrev pub place_of : {X : Type 0} → List ℕ → List (List ℕ × X) → Result ℕ ℕ
place_of name [] = Err 0
place_of name (m ∷ ms) = match_ordering (slice_cmp nat_cmp name m.0) (Err 0) (Ok 0) (one_further (place_of name ms))
