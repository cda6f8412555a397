use Rattle.std.proofs.Common.{◌≡◌, ◌+◌, List, length}
use Rattle.pb_host.specs.Host.{HostOf}
use Rattle.pb_hosts.specs.Applied.{LeadsTo}
use Rattle.pb_hosts.proofs.apply.revert_all.Given as goal

abbrev pub invariant-loop : goal.invariant-loop
invariant-loop l = ((was : List HostOf) → LeadsTo l.fn.log.items was l.fn.rows.items → LeadsTo l.left.items was l.rows.items) × (length l.left.items + l.counter ≡ l.count)
