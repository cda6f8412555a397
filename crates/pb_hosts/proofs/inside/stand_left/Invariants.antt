use Rattle.std.proofs.Common.{◌≡◌, ◌-◌, length, map}
use Rattle.pb_host.specs.Host.{left}
use Rattle.pb_host.specs.Standing.{standing}
use Rattle.pb_hosts.proofs.Members.{part}
use Rattle.pb_hosts.proofs.inside.stand_left.Given as goal

abbrev pub invariant-loop-host : goal.invariant-loop-host
invariant-loop-host l = l.standings ≡ map standing (part left l.from l.rows)

abbrev pub decreases-loop-host : goal.decreases-loop-host
decreases-loop-host l = length l.batch - l.from
