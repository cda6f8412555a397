use Rattle.std.proofs.Common.{◌≡◌, List}
use Rattle.pb_host.specs.Host.{HostOf}
use Rattle.pb_hosts.specs.Applied.{LeadsTo, with_update}
use Rattle.pb_hosts.proofs.apply.apply_some.Given as goal

abbrev pub invariant-loop-applied : goal.invariant-loop-applied
invariant-loop-applied l =
    (with_update l.applied-iterator.rest.items l.rows.items ≡ with_update l.fn.all.items l.fn.rows.items) × ((was : List HostOf) → LeadsTo l.fn.log.items was l.fn.rows.items → LeadsTo l.log.items was l.rows.items)
