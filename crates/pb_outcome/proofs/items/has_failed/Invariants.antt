use Rattle.std.proofs.Common.{◌≡◌, drop}
use Rattle.pb_outcome.specs.Items.{ended, some_failed}
use Rattle.pb_outcome.proofs.items.has_failed.Given as goal

abbrev pub invariant-loop-item : goal.invariant-loop-item
invariant-loop-item l = some_failed (ended l.items) ≡ some_failed (ended (drop l.item-index l.items))
