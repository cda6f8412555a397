use Rattle.std.proofs.Common.{◌≡◌, false, replicate}
use Rattle.pb_groups.proofs.planes.empty_planes.Given as goal

abbrev pub invariant-loop-group : goal.invariant-loop-group
invariant-loop-group l = l.planes.items ≡ replicate l._group (replicate l.hosts false)
