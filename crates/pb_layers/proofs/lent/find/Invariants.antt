use Rattle.std.proofs.Common.{◌≡◌, ◌-◌, ◌≤◌, length, take, Some, Less, nat_cmp}
use Rattle.std.specs.Prelude.{slice_get}
use Rattle.std.specs.Cmp.Lexicographic.{slice_cmp}
use Rattle.pb_layers.proofs.LentMaps.{Entry, IsAbove}
use Rattle.pb_layers.proofs.lent.find.Given as goal

-- the name comes behind the entries below `low`, and before the one at `high`
abbrev pub invariant-loop-low : goal.invariant-loop-low
invariant-loop-low l =
    (l.low ≤ l.high) × (l.high ≤ length l.entries) × IsAbove l.name (take l.low l.entries) × ((e : Entry) → slice_get l.entries l.high ≡ Some e → slice_cmp nat_cmp l.name e.0.now ≡ Less)

abbrev pub decreases-loop-low : goal.decreases-loop-low
decreases-loop-low l = l.high - l.low
