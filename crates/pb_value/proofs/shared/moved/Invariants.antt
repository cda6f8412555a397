use Rattle.std.proofs.Common.{◌≡◌, ◌+◌, ◌≤◌, ◌++◌, length}
use Rattle.std.specs.Map.{values_of}
use Rattle.std.specs.Vec.{vec_capacity}
use Rattle.pb_value.proofs.shared.moved.Given as goal

abbrev pub invariant-loop-name : goal.invariant-loop-name
invariant-loop-name l = (l.values.items ++ values_of l.name-iterator.rest.items ≡ values_of l.fn.row.items) × (length l.values.items + length l.name-iterator.rest.items ≤ vec_capacity l.values)
