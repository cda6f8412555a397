use Rattle.std.proofs.Common.{◌≡◌, ◌+◌, drop, count_by}
use Rattle.pb_lanes.specs.Bytes.{is_byte}
use Rattle.pb_lanes.proofs.bytes.count_rest.Given as goal

abbrev pub invariant-loop-at : goal.invariant-loop-at
invariant-loop-at l = l.count + count_by (is_byte l.byte) (drop l.at l.bytes) ≡ count_by (is_byte l.byte) (drop l.from l.bytes)
