use Rattle.std.proofs.Common.{◌∙◌, map}
use Rattle.pb_recap.specs.InColumns.{rows_of}
use Rattle.pb_recap.specs.Named.{members_of, named_in}
use Rattle.pb_recap.proofs.Hosts.{with_after}
use Rattle.pb_recap.proofs.stats.by_name.Goals as goal

pub loop-host-preserved : goal.loop-host-preserved
loop-host-preserved c =
    rw (c.in_ok-add_host.ensures)
    (with_after c.args.plan.now.inventory.hosts (rows_of c.args.counts.now) c.loop-host.host c.host_name-name.result.now (members_of (map (named_in c.args.counts.now) c.loop-host.hosts.entries)) c.host_name-name.ensures ∙ c.loop-host.invariant)
