-- The tree of what is written in a play: its nodes, its size and its depth.
use Rattle.std.proofs.Common.{◌≡◌, ℕ, ◌+◌, ◌<◌, ◌≤◌, List, [], ◌∷◌, ◌++◌, length, get_or, drop, max, refl, sym, ap, ◌∙◌, arith}
use Rattle.std.proofs.lemmas.List.{at_drop_more, drop_all}
use Rattle.pb_play.specs.declared.node.Node.{Node as PlayNode}
use Rattle.pb_play.specs.Nodes as written
use Rattle.pb_play.specs.Nodes.{Written}
use Rattle.pb_play.specs.View as play
use Rattle.pb_tree.specs.declared.tree.Node.{Node}
use Rattle.pb_tree.specs.declared.tree.Node.TheVariants.{Flush as OneFlush}
use Rattle.pb_tree.specs.Tree.{Nodes, Nothing, Flush, size, size_of}
use Rattle.pb_tree.specs.View.{tree_of}
use Rattle.pb_flat.specs.Deep.{always_depth}
use Rattle.pb_roles.specs.Building as building
use Rattle.pb_roles.specs.Building.{nodes_of, nodes_then, sections_then}
use Rattle.pb_roles.specs.Seen.{in_front, IsNode, AddsNodes, AddsPart, alone, places_in, places_in_all, depth_in, depth_in_all}
use Rattle.pb_roles.specs.declared.collected.Section.{Section}
use Rattle.pb_roles.specs.declared.sections.Sections.{Sections}
use Rattle.pb_roles.proofs.TreeNodes.{tree_flush, front_both, front_is}
use Rattle.pb_roles.proofs.PlayNodes.{written_turn, then_split}

-- ---- nodes

-- the nodes in front of one were added, and that node now
pub one_added : (old mid new : List Node) (nodes : List PlayNode) (i : ℕ) (x : PlayNode) (node : Node) (all : Written) → i < length nodes → x ≡ get_or nodes i x
    → ((rest : Nodes) → in_front mid (nodes_then (play.written_of (drop i nodes)) rest) ≡ in_front old (nodes_then all rest))
    → IsNode node (play.node_of x written.Nothing) → new ≡ mid ++ node ∷ []
    → (rest : Nodes) → in_front new (nodes_then (play.written_of (drop (i + 1) nodes)) rest) ≡ in_front old (nodes_then all rest)
one_added old mid new nodes i x node all lt is before one pushed rest =
    let behind : Nodes = nodes_then (play.written_of (drop (i + 1) nodes)) rest in
    ap (λ (ns : List Node). in_front ns behind) pushed
    ∙ front_both mid (node ∷ []) behind
    ∙ ap (in_front mid) (one behind ∙ sym (then_split x (play.written_of (drop (i + 1) nodes)) rest) ∙ ap (λ (w : Written). nodes_then w rest) (sym (written_turn nodes i x lt is)))
    ∙ before rest

pub part_is : (none nodes : List Node) (w : Written) → none ≡ [] → AddsNodes none nodes w → tree_of nodes ≡ alone w
part_is none nodes w empty adds = front_is nodes ∙ adds Nothing ∙ ap (λ (ns : List Node). in_front ns (alone w)) empty

-- the sections in front of one were added, and that section now
pub section_added : (old mid new : List Node) (sections : List Section) (i : ℕ) (x : Section) (all : List Section) → i < length sections → x ≡ get_or sections i x
    → ((rest : Nodes) → in_front mid (sections_then (drop i sections) rest) ≡ in_front old (sections_then all rest))
    → AddsNodes mid new x.nodes
    → (rest : Nodes) → in_front new (sections_then (drop (i + 1) sections) rest) ≡ in_front old (sections_then all rest)
section_added old mid new sections i x all lt is before adds rest =
    adds (sections_then (drop (i + 1) sections) rest)
    ∙ ap (in_front mid) (ap (λ (s : Section). nodes_then s.nodes (sections_then (drop (i + 1) sections) rest)) is ∙ sym (at_drop_more (λ (ss : List Section). sections_then ss rest) sections i x lt))
    ∙ before rest

pub part_added : (old mid new : List Node) (sections : List Section) (i : ℕ) → length sections ≤ i
    → ((rest : Nodes) → in_front mid (sections_then (drop i sections) rest) ≡ in_front old (sections_then sections rest))
    → new ≡ mid ++ OneFlush ∷ [] → AddsPart old new sections
part_added old mid new sections i none before pushed rest =
    ap (λ (ns : List Node). in_front ns rest) pushed
    ∙ front_both mid (OneFlush ∷ []) rest
    ∙ ap (in_front mid) (tree_flush rest ∙ ap (λ (ss : List Section). sections_then ss (Flush rest)) (sym (drop_all i sections none)))
    ∙ before (Flush rest)

pub parts_are : (none one two three : List Node) (play : Sections) → none ≡ [] → AddsPart none one play.pre → AddsPart one two play.tasks → AddsPart two three play.post
    → tree_of three ≡ nodes_of play
parts_are none one two three play empty a b c =
    front_is three
    ∙ c Nothing
    ∙ b (sections_then play.post (Flush Nothing))
    ∙ a (sections_then play.tasks (Flush (sections_then play.post (Flush Nothing))))
    ∙ ap (λ (ns : List Node). in_front ns (nodes_of play)) empty

-- ---- places

pub size_then : (handlers : ℕ) (w : Written) (rest : Nodes) → size handlers (nodes_then w rest) ≡ places_in handlers w + size handlers rest
size_then handlers written.Nothing rest = omega arith
size_then handlers (written.Task task more) rest = omega (arith, size_then handlers more rest)
size_then handlers (written.Block block body rescue always more) rest = omega (arith, size_then handlers more rest)
size_then handlers (written.Flush more) rest = omega (arith, size_then handlers more rest)

pub places_split : (handlers : ℕ) (n : PlayNode) (rest : Written) → places_in handlers (play.node_of n rest) ≡ places_in handlers (play.node_of n written.Nothing) + places_in handlers rest
places_split handlers n rest = ap (size handlers) (then_split n rest Nothing) ∙ size_then handlers (play.node_of n written.Nothing) (alone rest)

pub places_turn : (handlers : ℕ) (nodes : List PlayNode) (i : ℕ) (x : PlayNode) → i < length nodes → x ≡ get_or nodes i x
    → places_in handlers (play.written_of (drop i nodes)) ≡ places_in handlers (play.node_of x written.Nothing) + places_in handlers (play.written_of (drop (i + 1) nodes))
places_turn handlers nodes i x lt is = ap (places_in handlers) (written_turn nodes i x lt is) ∙ places_split handlers x (play.written_of (drop (i + 1) nodes))

-- how many are left behind one node more, and behind all
pub left_more : (handlers : ℕ) (nodes : List PlayNode) (i : ℕ) (x : PlayNode) (places left new all : ℕ) → i < length nodes → x ≡ get_or nodes i x
    → new + places_in handlers (play.node_of x written.Nothing) ≡ left → left + all ≡ places + places_in handlers (play.written_of (drop i nodes))
    → new + all ≡ places + places_in handlers (play.written_of (drop (i + 1) nodes))
left_more handlers nodes i x places left new all lt is here before = let turn = places_turn handlers nodes i x lt is in omega (arith, turn, here, before)

pub left_all : (handlers : ℕ) (nodes : List PlayNode) (i places left all : ℕ) → length nodes ≤ i → left + all ≡ places + places_in handlers (play.written_of (drop i nodes)) → left + all ≡ places
left_all handlers nodes i places left all end before =
    let none : places_in handlers (play.written_of (drop i nodes)) ≡ 0 = ap (λ (ns : List PlayNode). places_in handlers (play.written_of ns)) (drop_all i nodes end) in
    omega (arith, none, before)

pub sections_size : (handlers : ℕ) (sections : List Section) (rest : Nodes) → size handlers (sections_then sections (Flush rest)) ≡ places_in_all handlers sections + size handlers rest
sections_size handlers [] rest = refl
sections_size handlers (s ∷ sections) rest =
    let a = size_then handlers s.nodes (sections_then sections (Flush rest)) in
    let b = sections_size handlers sections rest in omega (arith, a, b)

pub sections_turn : (handlers : ℕ) (sections : List Section) (i : ℕ) (x : Section) → i < length sections → x ≡ get_or sections i x
    → places_in_all handlers (drop i sections) ≡ places_in handlers x.nodes + places_in_all handlers (drop (i + 1) sections)
sections_turn handlers sections i x lt is =
    at_drop_more (places_in_all handlers) sections i x lt ∙ ap (λ (s : Section). places_in handlers s.nodes + places_in_all handlers (drop (i + 1) sections)) (sym is)

pub at_least : (handlers : ℕ) (sections : List Section) → handlers ≤ places_in_all handlers sections
at_least handlers [] = omega arith
at_least handlers (s ∷ sections) = omega (arith, at_least handlers sections)

pub size_tree : (play : Sections)
    → size_of (building.tree_of play)
    ≡ places_in_all (length play.handlers) play.pre + places_in_all (length play.handlers) play.tasks + places_in_all (length play.handlers) play.post
size_tree play =
    let n = length play.handlers in
    let a = sections_size n play.pre (sections_then play.tasks (Flush (sections_then play.post (Flush Nothing)))) in
    let b = sections_size n play.tasks (sections_then play.post (Flush Nothing)) in
    let c = sections_size n play.post Nothing in omega (arith, a, b, c)

-- ---- depth

pub depth_then : (w : Written) (rest : Nodes) → always_depth (nodes_then w rest) ≡ max (depth_in w) (always_depth rest)
depth_then written.Nothing rest = omega arith
depth_then (written.Task task more) rest = depth_then more rest
depth_then (written.Block block body rescue always more) rest = omega (arith, depth_then more rest)
depth_then (written.Flush more) rest = depth_then more rest

pub depth_turn : (nodes : List PlayNode) (i : ℕ) (x : PlayNode) → i < length nodes → x ≡ get_or nodes i x
    → depth_in (play.written_of (drop i nodes)) ≡ max (depth_in (play.node_of x written.Nothing)) (depth_in (play.written_of (drop (i + 1) nodes)))
depth_turn nodes i x lt is =
    ap depth_in (written_turn nodes i x lt is)
    ∙ ap always_depth (then_split x (play.written_of (drop (i + 1) nodes)) Nothing)
    ∙ depth_then (play.node_of x written.Nothing) (alone (play.written_of (drop (i + 1) nodes)))

-- no node up to here is deeper, then one is, or none
pub depth_more : (nodes : List PlayNode) (i : ℕ) (x : PlayNode) (levels all : ℕ) → i < length nodes → x ≡ get_or nodes i x → depth_in (play.node_of x written.Nothing) ≤ levels
    → max levels all ≡ max levels (depth_in (play.written_of (drop i nodes))) → max levels all ≡ max levels (depth_in (play.written_of (drop (i + 1) nodes)))
depth_more nodes i x levels all lt is within before = let turn = depth_turn nodes i x lt is in omega (arith, turn, within, before)

pub depth_here : (nodes : List PlayNode) (i : ℕ) (x : PlayNode) (levels all : ℕ) → i < length nodes → x ≡ get_or nodes i x → levels < depth_in (play.node_of x written.Nothing)
    → max levels all ≡ max levels (depth_in (play.written_of (drop i nodes))) → levels < all
depth_here nodes i x levels all lt is deeper before = let turn = depth_turn nodes i x lt is in omega (arith, turn, deeper, before)

pub depth_all : (nodes : List PlayNode) (i levels all : ℕ) → length nodes ≤ i → max levels all ≡ max levels (depth_in (play.written_of (drop i nodes))) → all ≤ levels
depth_all nodes i levels all end before =
    let none : depth_in (play.written_of (drop i nodes)) ≡ 0 = ap (λ (ns : List PlayNode). depth_in (play.written_of ns)) (drop_all i nodes end) in
    omega (arith, none, before)

sections_depth : (sections : List Section) (rest : Nodes) → always_depth (sections_then sections rest) ≡ max (depth_in_all sections) (always_depth rest)
sections_depth [] rest = omega arith
sections_depth (s ∷ sections) rest =
    let a = depth_then s.nodes (sections_then sections rest) in
    let b = sections_depth sections rest in omega (arith, a, b)

pub sections_depth_turn : (sections : List Section) (i : ℕ) (x : Section) → i < length sections → x ≡ get_or sections i x
    → depth_in_all (drop i sections) ≡ max (depth_in x.nodes) (depth_in_all (drop (i + 1) sections))
sections_depth_turn sections i x lt is =
    at_drop_more depth_in_all sections i x lt ∙ ap (λ (s : Section). max (depth_in s.nodes) (depth_in_all (drop (i + 1) sections))) (sym is)

-- the same of sections
pub part_more : (sections : List Section) (i : ℕ) (x : Section) (nodes : Written) (levels all : ℕ) → i < length sections → x ≡ get_or sections i x → nodes ≡ x.nodes → depth_in nodes ≤ levels
    → max levels all ≡ max levels (depth_in_all (drop i sections)) → max levels all ≡ max levels (depth_in_all (drop (i + 1) sections))
part_more sections i x nodes levels all lt is same within before =
    let turn = sections_depth_turn sections i x lt is in let here = ap depth_in same in omega (arith, turn, here, within, before)

pub part_here : (sections : List Section) (i : ℕ) (x : Section) (nodes : Written) (levels all : ℕ) → i < length sections → x ≡ get_or sections i x → nodes ≡ x.nodes → levels < depth_in nodes
    → max levels all ≡ max levels (depth_in_all (drop i sections)) → levels < all
part_here sections i x nodes levels all lt is same deeper before =
    let turn = sections_depth_turn sections i x lt is in let here = ap depth_in same in omega (arith, turn, here, deeper, before)

pub part_all : (sections : List Section) (i levels all : ℕ) → length sections ≤ i → max levels all ≡ max levels (depth_in_all (drop i sections)) → all ≤ levels
part_all sections i levels all end before = let none : depth_in_all (drop i sections) ≡ 0 = ap depth_in_all (drop_all i sections end) in omega (arith, none, before)

pub depth_tree : (play : Sections) → always_depth (nodes_of play) ≡ max (depth_in_all play.pre) (max (depth_in_all play.tasks) (depth_in_all play.post))
depth_tree play =
    let a = sections_depth play.pre (Flush (sections_then play.tasks (Flush (sections_then play.post (Flush Nothing))))) in
    let b = sections_depth play.tasks (Flush (sections_then play.post (Flush Nothing))) in
    let c = sections_depth play.post (Flush Nothing) in omega (arith, a, b, c)
