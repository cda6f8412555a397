use Rattle.std.proofs.Common.{◌≡◌, ◌+◌, ◌≤◌, drop}
use Rattle.pb_operators.specs.Operators.{characters}
use Rattle.pb_operators.proofs.convert.characters.Given as goal

abbrev pub invariant-loop-byte : goal.invariant-loop-byte
invariant-loop-byte l = (l.count ≤ l.byte-index) × (l.count + characters (drop l.byte-index l.bytes) ≡ characters l.bytes)
