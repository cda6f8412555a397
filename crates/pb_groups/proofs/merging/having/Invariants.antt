use Rattle.std.proofs.Common.{◌≡◌, ◌++◌, drop}
use Rattle.pb_groups.specs.Keys.{has_host}
use Rattle.pb_groups.proofs.merging.having.Given as goal

abbrev pub invariant-loop-group : goal.invariant-loop-group
invariant-loop-group l = l.groups.items ++ has_host l.members l.host.0 (drop l.group-index l.order) ≡ has_host l.members l.host.0 l.order
