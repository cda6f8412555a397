use Rattle.std.proofs.Common.{◌≡◌, Some, take, false}
use Rattle.std.specs.List.{list_any}
use Rattle.pb_strategies.specs.Hosts.{is_next_at}
use Rattle.pb_strategies.proofs.standings.some_next.Given as goal

abbrev pub invariant-loop-host : goal.invariant-loop-host
invariant-loop-host l = list_any (is_next_at (Some l.place)) (take l.host-index l.hosts) ≡ false
