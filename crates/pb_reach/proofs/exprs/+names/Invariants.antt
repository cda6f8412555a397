use Rattle.std.proofs.Common.{◌≡◌, drop}
use Rattle.pb_expr_syntax.specs.Tree.{trees_of}
use Rattle.pb_reach.specs.Named.{in_trees}
use Rattle.pb_reach.proofs.exprs.+names.Given as goal

abbrev pub invariant-some_has-loop-expr : goal.invariant-some_has-loop-expr
invariant-some_has-loop-expr l = in_trees l.word (trees_of l.list) ≡ in_trees l.word (trees_of (drop l.expr-index l.expr-items))
