-- The first name that is notified and that no handler has, node by node.
use Rattle.std.proofs.Common.{◌≡◌, ℕ, ◌+◌, ◌<◌, List, length, get_or, drop, Option, Some, None, refl, sym, ap, ◌∙◌}
use Rattle.std.proofs.lemmas.List.{at_drop_more}
use Rattle.pb_layers.specs.Scope.{or_else}
use Rattle.pb_play.specs.declared.node.Node.{Node}
use Rattle.pb_play.specs.declared.node.Node.TheOpen.{Node-F, Task as OpenTask, Block as OpenBlock, Flush as OpenFlush}
use Rattle.pb_play.specs.Nodes.{Written, Nothing}
use Rattle.pb_play.specs.View.{joined, node_of, node_step, written_of}
use Rattle.pb_handlers.specs.Naming.{first_unknown}
use Rattle.pb_handlers.specs.declared.naming.HandlerNames.{HandlerNames}
use Rattle.pb_roles.specs.Unknown.{unknown_in, unknown_in_handlers, unknown_in_sections}
use Rattle.pb_roles.specs.declared.collected.HandlerIn.{HandlerIn}
use Rattle.pb_roles.specs.declared.collected.Section.{Section}
use Rattle.pb_roles.proofs.PlayNodes.{each_level, written_turn}

or_none : (a : Option (List ℕ)) → or_else a None ≡ a
or_none None = refl
or_none (Some x) = refl

four : (b r a m : Option (List ℕ)) → or_else b (or_else r (or_else a m)) ≡ or_else (or_else b (or_else r (or_else a None))) m
four (Some x) r a m = refl
four None (Some x) a m = refl
four None None (Some x) m = refl
four None None None m = refl

step_unknown : (names : List HandlerNames) (rest : Written) (n : Node-F (Written → Written))
    → unknown_in names (node_step n rest) ≡ or_else (unknown_in names (node_step n Nothing)) (unknown_in names rest)
step_unknown names rest (OpenTask task) = sym (ap (λ (o : Option (List ℕ)). or_else o (unknown_in names rest)) (or_none (first_unknown names task.notify)))
step_unknown names rest (OpenBlock block body rescue always) =
    four (unknown_in names (joined body.items)) (unknown_in names (joined rescue.items)) (unknown_in names (joined always.items)) (unknown_in names rest)
step_unknown names rest OpenFlush = refl

unknown_split : (names : List HandlerNames) (n : Node) (rest : Written)
    → unknown_in names (node_of n rest) ≡ or_else (unknown_in names (node_of n Nothing)) (unknown_in names rest)
unknown_split names n rest = each_level (λ g. unknown_in names (g rest) ≡ or_else (unknown_in names (g Nothing)) (unknown_in names rest)) (step_unknown names rest) n

-- that of a node, or else of those behind it
pub unknown_turn : (names : List HandlerNames) (nodes : List Node) (i : ℕ) (x : Node) → i < length nodes → x ≡ get_or nodes i x
    → unknown_in names (written_of (drop i nodes)) ≡ or_else (unknown_in names (node_of x Nothing)) (unknown_in names (written_of (drop (i + 1) nodes)))
unknown_turn names nodes i x lt is = ap (unknown_in names) (written_turn nodes i x lt is) ∙ unknown_split names x (written_of (drop (i + 1) nodes))

pub section_turn : (names : List HandlerNames) (sections : List Section) (i : ℕ) (x : Section) → i < length sections → x ≡ get_or sections i x
    → unknown_in_sections names (drop i sections) ≡ or_else (unknown_in names x.nodes) (unknown_in_sections names (drop (i + 1) sections))
section_turn names sections i x lt is =
    at_drop_more (unknown_in_sections names) sections i x lt
    ∙ ap (λ (s : Section). or_else (unknown_in names s.nodes) (unknown_in_sections names (drop (i + 1) sections))) (sym is)

pub handler_turn : (names : List HandlerNames) (handlers : List HandlerIn) (i : ℕ) (x : HandlerIn) → i < length handlers → x ≡ get_or handlers i x
    → unknown_in_handlers names (drop i handlers) ≡ or_else (first_unknown names x.handler.task.notify) (unknown_in_handlers names (drop (i + 1) handlers))
handler_turn names handlers i x lt is =
    at_drop_more (unknown_in_handlers names) handlers i x lt
    ∙ ap (λ (h : HandlerIn). or_else (first_unknown names h.handler.task.notify) (unknown_in_handlers names (drop (i + 1) handlers))) (sym is)

-- where the first one has none, it is that of the others
pub none_here : (all here later : Option (List ℕ)) → all ≡ or_else here later → here ≡ None → all ≡ later
none_here all here later is none = is ∙ ap (λ (o : Option (List ℕ)). or_else o later) none

pub found_here : (all here later : Option (List ℕ)) (name : List ℕ) → all ≡ or_else here later → here ≡ Some name → all ≡ Some name
found_here all here later name is found = is ∙ ap (λ (o : Option (List ℕ)). or_else o later) found
