use Rattle.std.proofs.Common.{◌≡◌, ◌≤◌, take}
use Rattle.pb_limits.specs.Counts.{running_at}
use Rattle.pb_strategies.specs.Hosts.{runs_in}
use Rattle.pb_strategies.proofs.standings.count_at.Given as goal

abbrev pub invariant-loop-host : goal.invariant-loop-host
invariant-loop-host l = record {
  counted : l.count ≡ running_at (runs_in (take l.host-index l.hosts)) l.place;
  few : l.count ≤ l.host-index;
}
