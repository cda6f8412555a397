use Rattle.std.proofs.Common.{◌≡◌, map}
use Rattle.pb_hosts.specs.Due.{is_inside}
use Rattle.pb_hosts.proofs.Joined.{opened, walks_left}
use Rattle.pb_hosts.proofs.inside.join_each.Given as goal

abbrev pub invariant-loop-walk : goal.invariant-loop-walk
invariant-loop-walk l = record {
  joined : l.rows.items ≡ opened l.from l.fn.walks.items l.fn.rows.items;
  remaining : l.walk-iterator.rest.items ≡ walks_left l.from l.fn.walks.items l.fn.rows.items;
  inside : l.batch ≡ map is_inside l.rows.items;
}
