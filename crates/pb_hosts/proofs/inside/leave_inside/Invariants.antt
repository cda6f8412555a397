use Rattle.std.proofs.Common.{◌≡◌, ◌-◌, length}
use Rattle.pb_host.specs.Host.{left}
use Rattle.pb_hosts.proofs.Members.{part}
use Rattle.pb_hosts.proofs.inside.leave_inside.Given as goal

abbrev pub invariant-loop-host : goal.invariant-loop-host
invariant-loop-host l = l.rows.items ≡ part left l.from l.initial.rows.items

abbrev pub decreases-loop-host : goal.decreases-loop-host
decreases-loop-host l = length l.batch - l.from
