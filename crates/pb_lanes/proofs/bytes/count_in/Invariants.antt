use Rattle.std.proofs.Common.{◌≡◌, ◌+◌, ◌*◌, drop, count_by}
use Rattle.pb_lanes.specs.Bytes.{is_byte}
use Rattle.pb_lanes.proofs.bytes.count_in.Given as goal

abbrev pub invariant-loop-index : goal.invariant-loop-index
invariant-loop-index l = l.count + count_by (is_byte l.byte) (drop (64 * l.index) l.bytes) ≡ count_by (is_byte l.byte) l.bytes
