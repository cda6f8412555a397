use Rattle.std.proofs.Common.{◌≡◌, ◌-◌, ◌≤◌, length, take, string_bytes, Global, String, Some, Less, nat_cmp}
use Rattle.std.specs.Prelude.{slice_get}
use Rattle.std.specs.Cmp.Lexicographic.{slice_cmp}
use Rattle.pb_value.specs.Datum.{Datum}
use Rattle.pb_value.proofs.Placed.{IsAbove}
use Rattle.pb_value.proofs.row.place.Given as goal

-- the name comes behind the entries below `low`, and before the one at `high`
abbrev pub invariant-loop-low : goal.invariant-loop-low
invariant-loop-low l =
    (l.low ≤ l.high) × (l.high ≤ length l.row) × IsAbove l.name (take l.low l.row) × ((e : String Global × Datum) → slice_get l.row l.high ≡ Some e → slice_cmp nat_cmp l.name (string_bytes e.0) ≡ Less)

abbrev pub decreases-loop-low : goal.decreases-loop-low
decreases-loop-low l = l.high - l.low
