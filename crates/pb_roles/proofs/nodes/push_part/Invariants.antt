use Rattle.std.proofs.Common.{◌≡◌, drop}
use Rattle.pb_tree.specs.Tree.{Nodes}
use Rattle.pb_roles.specs.Building.{sections_then}
use Rattle.pb_roles.specs.Seen.{in_front}
use Rattle.pb_roles.proofs.nodes.push_part.Given as goal

abbrev pub invariant-loop-section : goal.invariant-loop-section
invariant-loop-section l =
    (rest : Nodes) → in_front l.nodes.items (sections_then (drop l.section-index l.sections) rest) ≡ in_front l.fn.nodes.items (sections_then l.sections rest)
