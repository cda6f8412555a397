use Rattle.std.proofs.Common.{◌≡◌}
use Rattle.pb_hosts.proofs.hosts.watch_throttled.Given as goal

abbrev pub invariant-loop-place : goal.invariant-loop-place
invariant-loop-place l = l.standings ≡ l.fn.standings
