use Rattle.std.proofs.Common.{◌≡◌, drop}
use Rattle.pb_outcome.specs.Gathered.{some_unreachable}
use Rattle.pb_outcome.specs.Items.{ended}
use Rattle.pb_outcome.proofs.items.has_unreachable.Given as goal

abbrev pub invariant-loop-item : goal.invariant-loop-item
invariant-loop-item l = some_unreachable (ended l.items) ≡ some_unreachable (ended (drop l.item-index l.items))
