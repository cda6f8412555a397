use Rattle.std.proofs.Common.{◌≡◌, drop}
use Rattle.pb_expr_syntax.specs.Tree.{trees_of}
use Rattle.pb_reach.specs.Named.{in_trees}
use Rattle.pb_reach.proofs.exprs.some_names.Given as goal

abbrev pub invariant-loop-expr : goal.invariant-loop-expr
invariant-loop-expr l = in_trees l.word (trees_of l.exprs) ≡ in_trees l.word (trees_of (drop l.expr-index l.exprs))
