use Rattle.std.proofs.Common.{◌≡◌, ℕ, length, take}
use Rattle.pb_planes.specs.Set.{is_in}
use Rattle.pb_patterns.specs.Sets.{once, own_hosts, contains}
use Rattle.pb_patterns.proofs.order.own_order.Given as goal

abbrev pub invariant-loop-entry : goal.invariant-loop-entry
invariant-loop-entry l =
    (l.order.items ≡ once (own_hosts (take l.entry-index l.own) l.group.0))
    × (length l.seen ≡ length l.fn.seen)
    × ((h : ℕ) → is_in l.seen h ≡ contains (own_hosts (take l.entry-index l.own) l.group.0) h)
