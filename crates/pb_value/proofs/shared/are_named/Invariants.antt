use Rattle.std.proofs.Common.{◌≡◌, drop, length}
use Rattle.std.specs.Map.{keys_of}
use Rattle.pb_value.specs.Names.{spelled}
use Rattle.pb_value.proofs.shared.are_named.Given as goal

abbrev pub invariant-loop-at : goal.invariant-loop-at
invariant-loop-at l = (length l.row ≡ length l.names) × (spelled (keys_of (drop l.at l.row)) ≡ spelled (drop l.at l.names) → spelled (keys_of l.row) ≡ spelled l.names)
