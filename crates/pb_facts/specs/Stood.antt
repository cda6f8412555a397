-- What stood under a name before a value was put there, and the entries without a name.
use Rattle.std.specs.Prelude.{◌≡◌, ℕ, List, Option, IsSome, length}
use Rattle.std.specs.Ordering.{nat_cmp}
use Rattle.std.specs.Cmp.Lexicographic.{slice_cmp}
use Rattle.std.specs.Map.{remove_entry}
use Rattle.std.specs.BTreeMap.{is_at}
use Rattle.pb_value.specs.Datum.{Datum, put, value_at}

-- the entries without the one under a name
abbrev pub without : {X : Type 0} → List ℕ → List (List ℕ × X) → List (List ℕ × X)
without name ms = remove_entry (is_at (slice_cmp nat_cmp name)) ms

-- this stood under a name, or nothing did, before this value was put there: where something did, no name is new
pub record StoodThere (name : List ℕ) (before : Option Datum) (value : Datum) (ms : List (List ℕ × Datum)) : Type 0 where
  pub stood : value_at name ms ≡ before
  pub same : IsSome before → length (put name value ms) ≡ length ms
