use Rattle.std.proofs.Common.{◌≡◌, ◌++◌, drop}
use Rattle.std.specs.Prelude.{map}
use Rattle.pb_groups.specs.Ways.{link}
use Rattle.pb_inventory.proofs.numbering.push_links.Given as goal

abbrev pub invariant-loop-child : goal.invariant-loop-child
invariant-loop-child l = l.to.items ++ map (link l.parent) (drop l.child-index l.children) ≡ l.fn.to.items ++ map (link l.parent) l.children
