use Rattle.std.proofs.Common.{◌≡◌, ◌++◌, take, drop, map}
use Rattle.pb_host.specs.Host.{as_play_begins}
use Rattle.pb_hosts.proofs.list.play_hosts.begin_each.Given as goal

abbrev pub invariant-loop-row : goal.invariant-loop-row
invariant-loop-row l = l.rows ≡ map (as_play_begins l.hosts) (take l.row-index l.fn.rows) ++ drop l.row-index l.fn.rows
