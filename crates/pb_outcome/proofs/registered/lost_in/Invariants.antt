use Rattle.std.proofs.Common.{◌≡◌, drop}
use Rattle.pb_outcome.specs.Items.{ended, lost_in}
use Rattle.pb_outcome.proofs.registered.lost_in.Given as goal

abbrev pub invariant-loop-item : goal.invariant-loop-item
invariant-loop-item l = lost_in (ended l.items) ≡ lost_in (ended (drop l.item-index l.items))
