use Rattle.std.proofs.Common.{◌-◌, length}
use Rattle.pb_groups.specs.Planes.{AreFilledFrom}
use Rattle.pb_groups.proofs.planes.members_of.Given as goal

abbrev pub invariant-loop-above : goal.invariant-loop-above
invariant-loop-above l = AreFilledFrom l.links l.own l.depths l.hosts (length l.depths - l.above) l.planes.items
