-- What is left once the first was taken from the others.
use Rattle.std.proofs.Common.{◌≡◌, List, Option, Some, None, sym}
use Rattle.std.specs.Borrow.{Bor}
use Rattle.std.specs.Map.Iter.{TakesFirst, deref_pair}
use Rattle.pb_reading.specs.Members.{behind}

pub taken : {K X : Type 0} (from : List (K × X)) (first : Option (Bor K × Bor X)) (rest : List (K × X)) → TakesFirst (deref_pair {K = K} {X = X}) from first rest → behind first rest ≡ from
taken from None rest h = sym h.0
taken from (Some first) rest h = sym h
