use Rattle.std.proofs.Common.{◌≡◌, drop}
use Rattle.pb_expr_syntax.specs.Tree.{trees_of}
use Rattle.pb_reach.specs.Reached.{some_name_in, layers_lead}
use Rattle.pb_reach.proofs.exprs.some_reach.Given as goal

abbrev pub invariant-loop-expr : goal.invariant-loop-expr
invariant-loop-expr l = some_name_in (layers_lead l.layers) (trees_of l.exprs) ≡ some_name_in (layers_lead l.layers) (trees_of (drop l.expr-index l.exprs))
