use Rattle.std.proofs.Common.{◌≡◌, ◌≤◌, ◌++◌}
use Rattle.std.specs.BTreeMap.{btree_map_len}
use Rattle.std.specs.Vec.{vec_capacity}
use Rattle.pb_value.proofs.rise.move_down.Given as goal

abbrev pub invariant-loop-entry : goal.invariant-loop-entry
invariant-loop-entry l = (l.row.items ++ l.tree.entries ≡ l.fn.row.items ++ l.fn.tree.entries) × (vec_capacity l.fn.row ≤ vec_capacity l.row)

abbrev pub decreases-loop-entry : goal.decreases-loop-entry
decreases-loop-entry l = btree_map_len l.tree
