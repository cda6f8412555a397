-- The nodes that are written in a play.
use Rattle.std.proofs.Common.{◌≡◌, ℕ, suc, ◌+◌, ◌<◌, Bool, true, false, List, [], ◌∷◌, length, nat_eq, get_or, drop, refl, sym, ap, ◌∙◌, subst, arith, eqb-true, Vec, Global}
use Rattle.std.proofs.lemmas.List.{at_drop_more}
use Rattle.pb_play.specs.declared.node.BlockKeys.{BlockKeys}
use Rattle.pb_play.specs.declared.node.Node.{Node, roll-Node, out-Node, Task as ATask, Block as ABlock}
use Rattle.pb_play.specs.declared.node.Node.TheVariants.{Flush as AFlush, rolls-Task, rolls-Block}
use Rattle.pb_play.specs.declared.node.Node.TheOpen.{Node-F, Task as OpenTask, Block as OpenBlock, Flush as OpenFlush}
use Rattle.pb_play.specs.declared.node.Node.TheFolds.{fold-Node, fold_out-Node, fold-roll-Node, map-Node}
use Rattle.pb_play.specs.declared.task.Task.{Task as OneTask}
use Rattle.pb_play.specs.Nodes.{Written, Nothing, Task, Block, Flush}
use Rattle.pb_play.specs.View.{node_of, node_step, written_of}
use Rattle.pb_tree.specs.Tree.{Nodes}
use Rattle.pb_roles.specs.Building.{is_nothing, nodes_then}

pub written_task : (task : OneTask) (rest : Written) → node_of (ATask task) rest ≡ Task task rest
written_task task rest =
    ap (λ (m : Node). node_of m rest) (sym (rolls-Task task)) ∙ ap (λ (f : Written → Written). f rest) (fold-roll-Node (Written → Written) node_step (OpenTask task))

pub written_flush : (rest : Written) → node_of AFlush rest ≡ Flush rest
unfolding roll-Node denote.Hole.Carrier.roll
written_flush rest = ap (λ (f : Written → Written). f rest) (fold-roll-Node (Written → Written) node_step OpenFlush)

pub written_block : (block : BlockKeys) (body rescue always : Vec Node Global) (rest : Written)
    → node_of (ABlock block body rescue always) rest ≡ Block block (written_of body.items) (written_of rescue.items) (written_of always.items) rest
written_block block body rescue always rest =
    ap (λ (m : Node). node_of m rest) (sym (rolls-Block block body rescue always))
    ∙ ap (λ (f : Written → Written). f rest) (fold-roll-Node (Written → Written) node_step (OpenBlock block body rescue always))

-- the nodes from one on: that one, and those behind it
pub written_turn : (nodes : List Node) (i : ℕ) (x : Node) → i < length nodes → x ≡ get_or nodes i x → written_of (drop i nodes) ≡ node_of x (written_of (drop (i + 1) nodes))
written_turn nodes i x lt is = at_drop_more written_of nodes i x lt ∙ ap (λ (n : Node). node_of n (written_of (drop (i + 1) nodes))) (sym is)

-- what holds of each level of a node holds of the node
pub each_level : (P : (Written → Written) → Type 0) → ((n : Node-F (Written → Written)) → P (node_step n)) → (n : Node) → P (node_of n)
each_level P each n = subst P (sym (fold_out-Node (Written → Written) node_step n)) (each (map-Node Node (Written → Written) (fold-Node (Written → Written) node_step) (out-Node n)))

step_then : (rest : Written) (behind : Nodes) (n : Node-F (Written → Written)) → nodes_then (node_step n rest) behind ≡ nodes_then (node_step n Nothing) (nodes_then rest behind)
step_then rest behind (OpenTask task) = refl
step_then rest behind (OpenBlock block body rescue always) = refl
step_then rest behind OpenFlush = refl

-- a node, and those behind it
pub then_split : (n : Node) (rest : Written) (behind : Nodes) → nodes_then (node_of n rest) behind ≡ nodes_then (node_of n Nothing) (nodes_then rest behind)
then_split n rest behind = each_level (λ g. nodes_then (g rest) behind ≡ nodes_then (g Nothing) (nodes_then rest behind)) (step_then rest behind) n

step_some : (rest : Written) (n : Node-F (Written → Written)) → is_nothing (node_step n rest) ≡ false
step_some rest (OpenTask task) = refl
step_some rest (OpenBlock block body rescue always) = refl
step_some rest OpenFlush = refl

more_than_none : (n : ℕ) (b : Bool) → nat_eq (suc n) 0 ≡ b → b ≡ false
more_than_none n true e = absurd (let equal : suc n ≡ 0 = eqb-true (suc n) 0 e in omega arith)
more_than_none n false e = refl

pub is_none : (nodes : List Node) → is_nothing (written_of nodes) ≡ nat_eq (length nodes) 0
is_none [] = refl
is_none (n ∷ nodes) =
    each_level (λ g. is_nothing (g (written_of nodes)) ≡ false) (step_some (written_of nodes)) n ∙ sym (more_than_none (length nodes) (nat_eq (suc (length nodes)) 0) refl)
