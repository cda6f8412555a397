use Rattle.std.proofs.Common.{◌≡◌}
use Rattle.pb_host.specs.Host.{first_rows}
use Rattle.pb_hosts.proofs.list.first_rows.Given as goal

abbrev pub invariant-loop-host : goal.invariant-loop-host
invariant-loop-host l = l.rows.items ≡ first_rows 0 l.host
