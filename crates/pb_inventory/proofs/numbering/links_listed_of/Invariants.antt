use Rattle.std.proofs.Common.{◌≡◌, ◌++◌, drop}
use Rattle.pb_inventory.specs.Graph.{links_listed}
use Rattle.pb_inventory.proofs.numbering.links_listed_of.Given as goal

abbrev pub invariant-loop-group : goal.invariant-loop-group
invariant-loop-group l = links_listed l.groups l.listed ≡ l.links.items ++ links_listed l.groups (drop l.group-index l.listed)
