use Rattle.std.proofs.Common.{◌≡◌}
use Rattle.pb_groups.specs.Keys.{keys_to}
use Rattle.pb_groups.proofs.merging.keys_of.Given as goal

abbrev pub invariant-loop-group : goal.invariant-loop-group
invariant-loop-group l = l.keys.keys ≡ keys_to l.depths l.priorities l.group
