use Rattle.std.proofs.Common.{◌≡◌, ◌<◌, ◌+◌, ◌*◌, ℕ, length, slice_index, nat_lt}
use Rattle.std.specs.Prelude.{◌==◌}
use Rattle.std.specs.Int.{bit_at}
use Rattle.pb_planes.proofs.words.fill.Given as goal

abbrev pub invariant-loop-index : goal.invariant-loop-index
invariant-loop-index l =
    (length l.words ≡ length l.fn.words)
    × ((k : ℕ) → k < l.index → (j : ℕ) → j < 64 → (bit_at (slice_index l.words k) j == 1) ≡ nat_lt (k * 64 + j) l.width)
