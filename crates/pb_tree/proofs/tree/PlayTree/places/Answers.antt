use Rattle.std.proofs.Common.{◌≡◌, length, arith, ap, ◌∙◌}
use Rattle.pb_tree.specs.Tree.{size}
use Rattle.pb_tree.specs.View.{tree_of}
use Rattle.pb_tree.proofs.Paths.{length_paths}
use Rattle.pb_tree.proofs.tree.PlayTree.places.Goals as goal

pub returns : goal.returns
returns c =
    let t = c.self.inside in
    let long : length t.places.items ≡ size t.handlers (tree_of t.nodes.items) = ap length c.self.invariant ∙ length_paths t.handlers (tree_of t.nodes.items) in
    let count : c.len.result ≡ length t.places.items = omega (arith, c.len.ensures, t.places.ok.0) in
    rw (← c.self.view_is) (count ∙ long)
