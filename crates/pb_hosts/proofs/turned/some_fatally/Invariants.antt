use Rattle.std.proofs.Common.{◌≡◌, ◌-◌, drop, length}
use Rattle.std.specs.List.{list_any}
use Rattle.pb_hosts.specs.Turn.{has_ended_fatally}
use Rattle.pb_hosts.proofs.turned.some_fatally.Given as goal

abbrev pub invariant-loop-host : goal.invariant-loop-host
invariant-loop-host l = list_any (has_ended_fatally l.play l.place) (drop l.from l.rows) ≡ list_any (has_ended_fatally l.play l.place) l.rows

abbrev pub decreases-loop-host : goal.decreases-loop-host
decreases-loop-host l = length l.batch - l.from
