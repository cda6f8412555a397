use Rattle.std.proofs.Common.{◌≡◌, ◌++◌, drop, string_bytes}
use Rattle.pb_recap.specs.InColumns.{rows_of}
use Rattle.pb_recap.specs.Hosts.{hosts_with_count}
use Rattle.pb_recap.specs.Text.{host_lines}
use Rattle.pb_recap.proofs.text.push_hosts.Given as goal

abbrev pub invariant-loop-host : goal.invariant-loop-host
invariant-loop-host l =
    string_bytes l.text ++ host_lines (hosts_with_count (drop l.host l.plan.inventory.hosts) (drop l.host (rows_of l.counts)))
    ≡ string_bytes l.fn.text ++ host_lines (hosts_with_count l.plan.inventory.hosts (rows_of l.counts))
