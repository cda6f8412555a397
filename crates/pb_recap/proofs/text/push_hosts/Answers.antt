use Rattle.std.proofs.Common.{◌∙◌, string_bytes}
use Rattle.pb_recap.specs.InColumns.{rows_of}
use Rattle.pb_recap.proofs.Hosts.{lines_after}
use Rattle.pb_recap.proofs.text.push_hosts.Goals as goal

pub loop-host-preserved : goal.loop-host-preserved
loop-host-preserved c =
    rw (c.in_ok-push_host.ensures, c.counts_at.ensures)
    (lines_after c.args.plan.now.inventory.hosts (rows_of c.args.counts.now) c.loop-host.host c.host_name-name.result.now (string_bytes c.loop-host.text) c.host_name-name.ensures ∙ c.loop-host.invariant)
