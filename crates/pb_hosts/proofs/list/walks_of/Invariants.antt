use Rattle.std.proofs.Common.{◌≡◌}
use Rattle.std.specs.Prelude.{replicate}
use Rattle.pb_cursors.specs.Walks.{walk_from}
use Rattle.pb_hosts.proofs.list.walks_of.Given as goal

abbrev pub invariant-loop : goal.invariant-loop
invariant-loop l = l.walks.items ≡ replicate l.counter (walk_from l.laid.value.tree)
