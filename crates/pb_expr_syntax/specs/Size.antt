-- A row is larger than each tree within it.
use Rattle.std.specs.Prelude.{◌+◌, ◌≤◌, List, [], ◌∷◌}
use Rattle.std.proofs.Common.{arith}
use denote.Param.Weighed.{most}
use Rattle.pb_expr_syntax.specs.Tree.{Tree, nodes, trees_nodes, trees_of}

pub most-trees : (ts : List Tree) → most (λ t. nodes t + 1) ts ≤ trees_nodes (trees_of ts) + 1
most-trees [] = omega arith
most-trees (t ∷ ts) = omega (arith, most-trees ts)
