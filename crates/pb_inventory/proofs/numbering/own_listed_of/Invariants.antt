use Rattle.std.proofs.Common.{◌≡◌, ◌++◌, drop}
use Rattle.pb_inventory.specs.Graph.{own_listed}
use Rattle.pb_inventory.proofs.numbering.own_listed_of.Given as goal

abbrev pub invariant-loop-group : goal.invariant-loop-group
invariant-loop-group l = own_listed l.groups l.hosts l.listed ≡ l.own.items ++ own_listed l.groups l.hosts (drop l.group-index l.listed)
