use Rattle.std.proofs.Common.{◌-◌, Some, length}
use Rattle.pb_strategies.specs.Hosts.{is_next_at}
use Rattle.pb_strategies.proofs.Closing.{IsAsked}
use Rattle.pb_strategies.proofs.standings.drop_each_next.Given as goal

abbrev pub invariant-loop-host : goal.invariant-loop-host
invariant-loop-host l = IsAsked (is_next_at (Some l.place)) l.fn.set l.set l.hosts l.from

abbrev pub decreases-loop-host : goal.decreases-loop-host
decreases-loop-host l = length l.hosts - l.from
