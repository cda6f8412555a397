use Rattle.std.proofs.Common.{◌≡◌, ◌++◌, drop}
use Rattle.pb_outcome.specs.Items.{members_in}
use Rattle.pb_outcome.proofs.registered.members_in.Given as goal

abbrev pub invariant-loop-item : goal.invariant-loop-item
invariant-loop-item l = members_in l.variable l.items ≡ l.members ++ members_in l.variable (drop l.item-index l.items)
