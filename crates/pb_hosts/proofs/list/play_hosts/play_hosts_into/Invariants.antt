use Rattle.std.proofs.Common.{◌≡◌, ◌++◌, length, take, drop, map}
use Rattle.pb_host.specs.Host.{is_play_host}
use Rattle.pb_hosts.proofs.list.play_hosts.play_hosts_into.Given as goal

abbrev pub invariant-loop-i : goal.invariant-loop-i
invariant-loop-i l = record {
  width : length l.set ≡ length l.rows;
  overwritten : l.set ≡ map (is_play_host l.hosts) (take l.i l.rows) ++ drop l.i l.fn.set;
}
