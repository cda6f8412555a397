use Rattle.std.proofs.Common.{◌≡◌, ◌-◌, length, false}
use Rattle.std.specs.Prelude.{replicate}
use Rattle.pb_strategies.specs.Hosts.{is_next_at}
use Rattle.pb_strategies.proofs.Members.{overwritten}
use Rattle.pb_strategies.proofs.standings.put_next.Given as goal

abbrev pub invariant-loop-host : goal.invariant-loop-host
invariant-loop-host l = l.set ≡ overwritten (is_next_at l.place) l.from l.hosts (replicate (length l.hosts) false)

abbrev pub decreases-loop-host : goal.decreases-loop-host
decreases-loop-host l = length l.unended - l.from
