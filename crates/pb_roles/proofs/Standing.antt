-- Whether a key stands in some nodes, node by node.
use Rattle.std.proofs.Common.{◌≡◌, ℕ, ◌+◌, ◌<◌, ◌≤◌, Bool, true, false, List, length, get_or, drop, refl, sym, ap, ◌∙◌}
use Rattle.std.proofs.lemmas.List.{drop_all}
use Rattle.std.specs.Prelude.{◌||◌}
use Rattle.pb_play.specs.declared.node.Node.{Node}
use Rattle.pb_play.specs.declared.node.Node.TheOpen.{Node-F, Task as OpenTask, Block as OpenBlock, Flush as OpenFlush}
use Rattle.pb_play.specs.Nodes.{Written, Nothing}
use Rattle.pb_play.specs.View.{joined, node_of, node_step, written_of}
use Rattle.pb_roles.specs.LinearKeys.{has_key, stands_in}
use Rattle.pb_roles.specs.declared.linear_keys.CoupledKey.{CoupledKey}
use Rattle.pb_roles.proofs.PlayNodes.{each_level, written_turn}

one : (a m : Bool) → (a || m) ≡ ((a || false) || m)
one true m = refl
one false m = refl

five : (k b r a m : Bool) → (k || (b || (r || (a || m)))) ≡ ((k || (b || (r || (a || false)))) || m)
five true b r a m = refl
five false true r a m = refl
five false false true a m = refl
five false false false true m = refl
five false false false false m = refl

step_stands : (key : CoupledKey) (rest : Written) (n : Node-F (Written → Written)) → stands_in key (node_step n rest) ≡ (stands_in key (node_step n Nothing) || stands_in key rest)
step_stands key rest (OpenTask task) = one (has_key key task.couplings) (stands_in key rest)
step_stands key rest (OpenBlock block body rescue always) =
    five (has_key key block.couplings) (stands_in key (joined body.items)) (stands_in key (joined rescue.items)) (stands_in key (joined always.items)) (stands_in key rest)
step_stands key rest OpenFlush = refl

stands_split : (key : CoupledKey) (n : Node) (rest : Written) → stands_in key (node_of n rest) ≡ (stands_in key (node_of n Nothing) || stands_in key rest)
stands_split key n rest = each_level (λ g. stands_in key (g rest) ≡ (stands_in key (g Nothing) || stands_in key rest)) (step_stands key rest) n

-- at that node, or behind it
stands_turn : (key : CoupledKey) (nodes : List Node) (i : ℕ) (x : Node) → i < length nodes → x ≡ get_or nodes i x
    → stands_in key (written_of (drop i nodes)) ≡ (stands_in key (node_of x Nothing) || stands_in key (written_of (drop (i + 1) nodes)))
stands_turn key nodes i x lt is = ap (stands_in key) (written_turn nodes i x lt is) ∙ stands_split key x (written_of (drop (i + 1) nodes))

-- so it stands in all of them where it stands at one, or else in those behind it
pub stands_more : (key : CoupledKey) (nodes : List Node) (i : ℕ) (x : Node) (found all : Bool) → i < length nodes → x ≡ get_or nodes i x → found ≡ stands_in key (node_of x Nothing) → found ≡ false
    → all ≡ stands_in key (written_of (drop i nodes)) → all ≡ stands_in key (written_of (drop (i + 1) nodes))
stands_more key nodes i x found all lt is f no_key before = before ∙ stands_turn key nodes i x lt is ∙ ap (λ b. b || stands_in key (written_of (drop (i + 1) nodes))) (sym f ∙ no_key)

pub stands_here : (key : CoupledKey) (nodes : List Node) (i : ℕ) (x : Node) (found all : Bool) → i < length nodes → x ≡ get_or nodes i x → found ≡ stands_in key (node_of x Nothing) → found ≡ true
    → all ≡ stands_in key (written_of (drop i nodes)) → true ≡ all
stands_here key nodes i x found all lt is f t before = sym (before ∙ stands_turn key nodes i x lt is ∙ ap (λ b. b || stands_in key (written_of (drop (i + 1) nodes))) (sym f ∙ t))

pub stands_nowhere : (key : CoupledKey) (nodes : List Node) (i : ℕ) (all : Bool) → length nodes ≤ i → all ≡ stands_in key (written_of (drop i nodes)) → false ≡ all
stands_nowhere key nodes i all end before = sym (before ∙ ap (λ (ns : List Node). stands_in key (written_of ns)) (drop_all i nodes end))
