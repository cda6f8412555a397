-- The nodes of a tree in the code.
use Rattle.std.proofs.Common.{◌≡◌, List, [], ◌∷◌, ◌++◌, refl, sym, ap, ◌∙◌, Vec, Global}
use Rattle.pb_tree.specs.declared.tree.Node.{Node, roll-Node, Block as ABlock}
use Rattle.pb_tree.specs.declared.tree.Node.TheVariants.{Task as OneTask, Flush as OneFlush, rolls-Block}
use Rattle.pb_tree.specs.declared.tree.Node.TheOpen.{Task as OpenTask, Block as OpenBlock, Flush as OpenFlush}
use Rattle.pb_tree.specs.declared.tree.Node.TheFolds.{fold-roll-Node}
use Rattle.pb_tree.specs.Tree.{Nodes, Nothing, Task, Block, Flush}
use Rattle.pb_tree.specs.View.{tree_of, node_of, node_step}
use Rattle.pb_roles.specs.Seen.{in_front}

pub tree_task : (rest : Nodes) → node_of OneTask rest ≡ Task rest
unfolding roll-Node denote.Hole.Carrier.roll
tree_task rest = ap (λ (g : Nodes → Nodes). g rest) (fold-roll-Node (Nodes → Nodes) node_step OpenTask)

pub tree_flush : (rest : Nodes) → node_of OneFlush rest ≡ Flush rest
unfolding roll-Node denote.Hole.Carrier.roll
tree_flush rest = ap (λ (g : Nodes → Nodes). g rest) (fold-roll-Node (Nodes → Nodes) node_step OpenFlush)

pub tree_block : (body rescue always : Vec Node Global) (rest : Nodes) → node_of (ABlock body rescue always) rest ≡ Block (tree_of body.items) (tree_of rescue.items) (tree_of always.items) rest
tree_block body rescue always rest =
    ap (λ (m : Node). node_of m rest) (sym (rolls-Block body rescue always))
    ∙ ap (λ (f : Nodes → Nodes). f rest) (fold-roll-Node (Nodes → Nodes) node_step (OpenBlock body rescue always))

pub front_both : (one other : List Node) (rest : Nodes) → in_front (one ++ other) rest ≡ in_front one (in_front other rest)
front_both [] other rest = refl
front_both (n ∷ one) other rest = ap (node_of n) (front_both one other rest)

pub front_is : (nodes : List Node) → tree_of nodes ≡ in_front nodes Nothing
front_is [] = refl
front_is (n ∷ nodes) = ap (node_of n) (front_is nodes)
