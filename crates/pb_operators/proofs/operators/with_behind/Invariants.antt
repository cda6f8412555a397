use Rattle.std.proofs.Common.{◌≡◌, ◌++◌, take}
use Rattle.pb_operators.proofs.operators.with_behind.Given as goal

abbrev pub invariant-loop-item : goal.invariant-loop-item
invariant-loop-item l = l.list ≡ l.fn.list ++ take l.item-index l.items
