use Rattle.std.proofs.Common.{◌≡◌, ◌-◌, length}
use Rattle.std.specs.Prelude.{None}
use Rattle.pb_host.specs.Walking.{with_walk}
use Rattle.pb_hosts.proofs.Members.{part}
use Rattle.pb_hosts.proofs.inside.step_out.Given as goal

abbrev pub invariant-loop-host : goal.invariant-loop-host
invariant-loop-host l = l.rows.items ≡ part (with_walk None) l.from l.initial.rows.items

abbrev pub decreases-loop-host : goal.decreases-loop-host
decreases-loop-host l = length l.batch - l.from
