use Rattle.std.proofs.Common.{◌≡◌, drop}
use Rattle.std.specs.Prelude.{nat_le}
use Rattle.pb_expr_syntax.specs.Tree.{trees_of}
use Rattle.pb_expr_syntax.specs.Depth.{trees_depth}
use Rattle.pb_expr_syntax.proofs.tree.+is_within.Given as goal

abbrev pub invariant-ExprList::is_within-loop-item : goal.invariant-ExprList::is_within-loop-item
invariant-ExprList::is_within-loop-item l =
    nat_le (trees_depth (trees_of l.self)) l.levels ≡ nat_le (trees_depth (trees_of (drop l.item-index l.item-items))) l.levels
