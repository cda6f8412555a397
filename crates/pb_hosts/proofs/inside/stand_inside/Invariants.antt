use Rattle.std.proofs.Common.{◌≡◌, ◌-◌, length}
use Rattle.pb_hosts.proofs.Members.{stood}
use Rattle.pb_hosts.proofs.inside.stand_inside.Given as goal

abbrev pub invariant-loop-host : goal.invariant-loop-host
invariant-loop-host l = l.standings ≡ stood l.from l.rows

abbrev pub decreases-loop-host : goal.decreases-loop-host
decreases-loop-host l = length l.batch - l.from
