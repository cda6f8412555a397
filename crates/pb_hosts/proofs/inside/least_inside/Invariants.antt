use Rattle.std.proofs.Common.{◌≡◌, ◌-◌, drop, length}
use Rattle.pb_hosts.specs.Hosts.{least_place, lesser}
use Rattle.pb_hosts.proofs.inside.least_inside.Given as goal

abbrev pub invariant-loop-host : goal.invariant-loop-host
invariant-loop-host l = lesser l.least (least_place (drop l.from l.rows)) ≡ least_place l.rows

abbrev pub decreases-loop-host : goal.decreases-loop-host
decreases-loop-host l = length l.batch - l.from
