use Rattle.std.proofs.Common.{◌≡◌, ◌≤◌, ◌++◌}
use Rattle.std.specs.Vec.{vec_len, vec_capacity}
use Rattle.pb_value.proofs.rise.move_up.Given as goal

abbrev pub invariant-loop-name : goal.invariant-loop-name
invariant-loop-name l = (l.row.items ++ l.tree.entries ≡ l.fn.row.items ++ l.fn.tree.entries) × (vec_capacity l.fn.row ≤ vec_capacity l.row)

abbrev pub decreases-loop-name : goal.decreases-loop-name
decreases-loop-name l = vec_len l.row
