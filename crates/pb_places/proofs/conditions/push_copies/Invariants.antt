use Rattle.std.proofs.Common.{◌≡◌, ◌++◌, take}
use Rattle.pb_places.proofs.conditions.push_copies.Given as goal

abbrev pub invariant-loop-expr : goal.invariant-loop-expr
invariant-loop-expr l = l.all.items ≡ l.fn.exprs.items ++ take l.expr-index l.more
