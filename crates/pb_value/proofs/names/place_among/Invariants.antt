use Rattle.std.proofs.Common.{◌≡◌, ◌-◌, ◌≤◌, ℕ, length, take, string_bytes, Global, String, Some, Less, nat_cmp}
use Rattle.std.specs.Prelude.{slice_get}
use Rattle.std.specs.Cmp.Lexicographic.{slice_cmp}
use Rattle.pb_value.specs.Names.{paired}
use Rattle.pb_value.proofs.Placed.{IsAbove}
use Rattle.pb_value.proofs.names.place_among.Given as goal

-- the name comes behind the names below `low`, and before the one at `high`
abbrev pub invariant-loop-low : goal.invariant-loop-low
invariant-loop-low l =
    (l.low ≤ l.high) × (l.high ≤ length l.names) × IsAbove l.name (take l.low (paired l.names)) × ((e : String Global × ℕ) → slice_get (paired l.names) l.high ≡ Some e → slice_cmp nat_cmp l.name (string_bytes e.0) ≡ Less)

abbrev pub decreases-loop-low : goal.decreases-loop-low
decreases-loop-low l = l.high - l.low
