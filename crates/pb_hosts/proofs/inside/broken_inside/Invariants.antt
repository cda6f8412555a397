use Rattle.std.proofs.Common.{◌≡◌, ◌≤◌, ◌+◌, ◌-◌, drop, length}
use Rattle.std.specs.Prelude.{count_by}
use Rattle.std.specs.Option.{option_copied}
use Rattle.pb_host.specs.Host.{HostOf}
use Rattle.pb_hosts.specs.Turn.{with_copy}
use Rattle.pb_hosts.proofs.inside.broken_inside.Given as goal

abbrev pub invariant-loop-host : goal.invariant-loop-host
invariant-loop-host l = record {
  counted :
      l.count + count_by (λ (row : HostOf). (with_copy l.copied.inventory.now l.copied.play.now l.copied.place (option_copied l.copied.from) row).is_broken) (drop l.from l.rows)
      ≡ count_by (λ (row : HostOf). (with_copy l.copied.inventory.now l.copied.play.now l.copied.place (option_copied l.copied.from) row).is_broken) l.rows;
  few : l.count ≤ l.from;
}

abbrev pub decreases-loop-host : goal.decreases-loop-host
decreases-loop-host l = length l.batch - l.from
