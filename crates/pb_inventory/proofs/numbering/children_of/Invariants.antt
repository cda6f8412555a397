use Rattle.std.proofs.Common.{◌≡◌, ◌++◌, drop}
use Rattle.std.specs.Prelude.{map}
use Rattle.pb_inventory.specs.Graph.{all, group_number, number_first}
use Rattle.pb_inventory.proofs.numbering.children_of.Given as goal

abbrev pub invariant-loop-link : goal.invariant-loop-link
invariant-loop-link l = l.children.items ++ map (λ l. l.child.0) (drop l.link-index l.links) ≡ number_first (group_number l.groups all) (map (λ l. l.child.0) l.links)
