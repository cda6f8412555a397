use Rattle.std.proofs.Common.{◌≡◌, drop}
use Rattle.pb_outcome.specs.Items.{ended, some_changed}
use Rattle.pb_outcome.proofs.items.has_changed.Given as goal

abbrev pub invariant-loop-item : goal.invariant-loop-item
invariant-loop-item l = some_changed (ended l.items) ≡ some_changed (ended (drop l.item-index l.items))
