use Rattle.std.proofs.Common.{◌≡◌, ◌-◌, drop, length}
use Rattle.pb_hosts.specs.Turn.{run_once_host}
use Rattle.pb_hosts.proofs.turned.run_once_host.Given as goal

abbrev pub invariant-loop-host : goal.invariant-loop-host
invariant-loop-host l = run_once_host l.place (drop l.from l.rows) ≡ run_once_host l.place l.rows

abbrev pub decreases-loop-host : goal.decreases-loop-host
decreases-loop-host l = length l.batch - l.from
