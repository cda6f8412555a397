use Rattle.std.proofs.Common.{◌≡◌, drop}
use Rattle.pb_expr_syntax.specs.Tree.{trees_of}
use Rattle.pb_reach.specs.Reached.{some_name_in, layers_lead}
use Rattle.pb_reach.proofs.exprs.+reached.Given as goal

abbrev pub invariant-some_reaches-loop-expr : goal.invariant-some_reaches-loop-expr
invariant-some_reaches-loop-expr l = some_name_in (layers_lead l.layers) (trees_of l.list) ≡ some_name_in (layers_lead l.layers) (trees_of (drop l.expr-index l.expr-items))
