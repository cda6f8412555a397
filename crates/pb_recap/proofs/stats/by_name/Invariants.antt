use Rattle.std.proofs.Common.{◌≡◌, drop, map}
use Rattle.serde_json.specs.Data.{no_members}
use Rattle.pb_recap.specs.InColumns.{rows_of}
use Rattle.pb_recap.specs.Hosts.{hosts_with_count}
use Rattle.pb_recap.specs.Named.{members_of, named_in}
use Rattle.pb_recap.specs.Stats.{with_hosts}
use Rattle.pb_recap.proofs.stats.by_name.Given as goal

abbrev pub invariant-loop-host : goal.invariant-loop-host
invariant-loop-host l =
    with_hosts (members_of (map (named_in l.counts) l.hosts.entries)) (hosts_with_count (drop l.host l.plan.inventory.hosts) (drop l.host (rows_of l.counts)))
    ≡ with_hosts no_members (hosts_with_count l.plan.inventory.hosts (rows_of l.counts))
