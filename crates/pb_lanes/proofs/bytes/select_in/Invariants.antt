use Rattle.std.proofs.Common.{◌≡◌, ◌*◌, length}
use Rattle.pb_lanes.proofs.Hits.{IsSelectedTo}
use Rattle.pb_lanes.proofs.bytes.select_in.Given as goal

abbrev pub invariant-loop-index : goal.invariant-loop-index
invariant-loop-index l = (length l.set ≡ length l.fn.set) × IsSelectedTo l.bytes l.byte l.set (64 * l.index)
