use Rattle.std.proofs.Common.{◌≡◌, ◌<◌, ◌≤◌, ◌+◌, ◌*◌, ℕ, false}
use Rattle.pb_planes.specs.Words.{has_at}
use Rattle.pb_planes.proofs.words.next_in.Given as goal

abbrev pub invariant-loop-index : goal.invariant-loop-index
invariant-loop-index l =
    (l.start < 64) × (64 * l.first + l.place ≤ l.index * 64 + l.start)
    × ((i : ℕ) → 64 * l.first + l.place ≤ i → i < l.index * 64 + l.start → has_at l.words i ≡ false)
