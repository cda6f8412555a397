use Rattle.std.proofs.Common.{◌≡◌, drop}
use Rattle.pb_operators.specs.Values.{is_among}
use Rattle.pb_operators.proofs.compare.is_among.Given as goal

abbrev pub invariant-loop-item : goal.invariant-loop-item
invariant-loop-item l = is_among l.x (drop l.item-index l.items) ≡ is_among l.x l.items
