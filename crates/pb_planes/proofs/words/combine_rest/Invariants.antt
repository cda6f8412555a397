use Rattle.std.proofs.Common.{◌≡◌, ◌<◌, ◌≤◌, ℕ, length, slice_index}
use Rattle.pb_planes.specs.Words.{combined}
use Rattle.pb_planes.proofs.words.combine_rest.Given as goal

abbrev pub invariant-loop-i : goal.invariant-loop-i
invariant-loop-i l =
    (length l.to ≡ length l.fn.to)
    × ((k : ℕ) → l.at ≤ k → k < l.i → slice_index l.to k ≡ combined l.how (slice_index l.fn.to k) (slice_index l.from k))
    × ((k : ℕ) → k < l.at → slice_index l.to k ≡ slice_index l.fn.to k)
    × ((k : ℕ) → l.i ≤ k → slice_index l.to k ≡ slice_index l.fn.to k)
