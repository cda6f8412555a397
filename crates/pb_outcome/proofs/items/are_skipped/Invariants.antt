use Rattle.std.proofs.Common.{◌≡◌, drop}
use Rattle.pb_outcome.specs.Items.{ended, all_skipped}
use Rattle.pb_outcome.proofs.items.are_skipped.Given as goal

abbrev pub invariant-loop-item : goal.invariant-loop-item
invariant-loop-item l = all_skipped (ended l.items) ≡ all_skipped (ended (drop l.item-index l.items))
