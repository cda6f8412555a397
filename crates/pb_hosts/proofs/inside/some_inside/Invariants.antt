use Rattle.std.proofs.Common.{◌≡◌, ◌-◌, drop, length}
use Rattle.std.specs.List.{list_any}
use Rattle.pb_host.specs.Runs.{is_in}
use Rattle.pb_hosts.proofs.inside.some_inside.Given as goal

abbrev pub invariant-loop-host : goal.invariant-loop-host
invariant-loop-host l = list_any is_in (drop l.from l.rows) ≡ list_any is_in l.rows

abbrev pub decreases-loop-host : goal.decreases-loop-host
decreases-loop-host l = length l.batch - l.from
