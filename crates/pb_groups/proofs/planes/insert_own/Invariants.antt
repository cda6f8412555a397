use Rattle.std.proofs.Common.{length}
use Rattle.pb_groups.specs.Planes.{AreInserted}
use Rattle.pb_groups.proofs.planes.insert_own.Given as goal

abbrev pub invariant-loop-own_host : goal.invariant-loop-own_host
invariant-loop-own_host l = AreInserted l.own (length l.fn.planes) l.hosts l.own_host-index l.planes
