use Rattle.std.proofs.Common.{◌≡◌, ◌-◌, length}
use Rattle.pb_hosts.specs.TurnMade.{turning_row}
use Rattle.pb_hosts.proofs.Members.{part}
use Rattle.pb_hosts.proofs.inside.turn_inside.Given as goal

abbrev pub invariant-loop-host : goal.invariant-loop-host
invariant-loop-host l = l.rows.items ≡ part (turning_row l.turning) l.from l.initial.rows.items

abbrev pub decreases-loop-host : goal.decreases-loop-host
decreases-loop-host l = length l.batch - l.from
