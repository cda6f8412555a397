use Rattle.std.proofs.Common.{◌≡◌, ◌<◌, ◌≤◌, ℕ, length, slice_index}
use Rattle.pb_planes.specs.Set.{is_in}
use Rattle.pb_lanes.specs.Bytes.{is_byte}
use Rattle.pb_lanes.proofs.bytes.select_rest.Given as goal

abbrev pub invariant-loop-at : goal.invariant-loop-at
invariant-loop-at l =
    (length l.set ≡ length l.fn.set)
    × ((i : ℕ) → l.from ≤ i → i < l.at → is_in l.set i ≡ is_byte l.byte (slice_index l.bytes i))
    × ((i : ℕ) → i < l.from → is_in l.set i ≡ is_in l.fn.set i)
