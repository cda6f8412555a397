use Rattle.std.proofs.Common.{◌≡◌, drop}
use Rattle.pb_inventory.specs.Names.{with_names}
use Rattle.pb_inventory.specs.Graph.{mentioned_hosts, host_names}
use Rattle.pb_inventory.proofs.numbering.host_names_of.Given as goal

abbrev pub invariant-loop-group : goal.invariant-loop-group
invariant-loop-group l = with_names (mentioned_hosts (drop l.group-index l.listed)) l.names ≡ host_names l.listed
