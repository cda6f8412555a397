use Rattle.std.proofs.Common.{◌≡◌, take, map}
use Rattle.pb_host.specs.Host.{HostOf}
use Rattle.pb_hosts.proofs.list.counts_of.Given as goal

abbrev pub invariant-loop-row : goal.invariant-loop-row
invariant-loop-row l = l.counts.items ≡ map (λ (row : HostOf). row.counts) (take l.row-index l.rows)
