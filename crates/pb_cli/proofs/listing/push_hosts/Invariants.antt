use Rattle.std.proofs.Common.{◌≡◌, ◌++◌, drop, string_bytes}
use Rattle.pb_cli.specs.Listing.{host_lines}
use Rattle.pb_cli.proofs.listing.push_hosts.Given as goal

abbrev pub invariant-loop-host : goal.invariant-loop-host
invariant-loop-host l =
    string_bytes l.text ++ host_lines (drop l.host l.plan.inventory.hosts) (drop l.host l.hosts) ≡ string_bytes l.fn.text ++ host_lines l.plan.inventory.hosts l.hosts
