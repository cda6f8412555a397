use Rattle.std.proofs.Common.{◌≡◌, take}
use Rattle.pb_places.proofs.conditions.+copy.Given as goal

abbrev pub invariant-copy_list-loop-expr : goal.invariant-copy_list-loop-expr
invariant-copy_list-loop-expr l = l.others.items ≡ take l.expr-index l.expr-items
