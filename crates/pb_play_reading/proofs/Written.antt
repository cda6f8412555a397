-- Nodes behind others, and a list of nodes that is read node by node.
use Rattle.std.proofs.Common.{◌≡◌, ◌≢◌, ◌≤◌, ◌-◌, ℕ, zero, suc, ◌+◌, List, [], ◌∷◌, ◌++◌, Ok, Err, refl, sym, ◌∙◌, ap, subst, length, drop, arith}
use Rattle.std.proofs.lemmas.List.{at_drop_all}
use Rattle.std.specs.Prelude.{decimal}
use Rattle.serde_json.specs.Data as json
use Rattle.serde_json.specs.View.{items_view}
use Rattle.serde_json.specs.declared.value.Value.{Value}
use Rattle.pb_value.specs.Reading.{and_then, map_ok, below}
use Rattle.pb_reading.specs.Reading.{Reading}
use Rattle.pb_play_reading.specs.Blocks.{Lists, block}
use Rattle.pb_play_reading.specs.NodeLists.{each_node, inner, nodes}
use Rattle.pb_play.specs.Nodes.{Written, Nothing, Task, Block, Flush, followed}
use Rattle.pb_play.specs.View.{node_step, node_of, written_of}
use Rattle.pb_written.specs.declared.fault.LoadFault.{LoadFault}
use Rattle.pb_play.specs.declared.node.Node.{Node, out-Node}
use Rattle.pb_play.specs.declared.node.Node.TheOpen.{Node-F, Task as OneTask, Block as OneBlock, Flush as OneFlush}
use Rattle.pb_play.specs.declared.node.Node.TheFolds.{fold-Node, fold_out-Node, map-Node}

pub followed_nothing : (w : Written) → followed w Nothing ≡ w
followed_nothing Nothing = refl
followed_nothing (Task t more) = ap (Task t) (followed_nothing more)
followed_nothing (Block keys body rescue always more) = ap (Block keys body rescue always) (followed_nothing more)
followed_nothing (Flush more) = ap Flush (followed_nothing more)

pub followed_assoc : (a b c : Written) → followed (followed a b) c ≡ followed a (followed b c)
followed_assoc Nothing b c = refl
followed_assoc (Task t more) b c = ap (Task t) (followed_assoc more b c)
followed_assoc (Block keys body rescue always more) b c = ap (Block keys body rescue always) (followed_assoc more b c)
followed_assoc (Flush more) b c = ap Flush (followed_assoc more b c)

-- a node is put in front of what is behind it
step_followed : (n : Node-F (Written → Written)) (rest : Written) → node_step n rest ≡ followed (node_step n Nothing) rest
step_followed (OneTask t) rest = refl
step_followed (OneBlock keys body rescue always) rest = refl
step_followed OneFlush rest = refl

pub node_followed : (n : Node) (rest : Written) → node_of n rest ≡ followed (node_of n Nothing) rest
node_followed n rest =
    let P : (Written → Written) → Type 0 = λ g. g rest ≡ followed (g Nothing) rest in
    subst P (sym (fold_out-Node (Written → Written) node_step n)) (step_followed (map-Node Node (Written → Written) (fold-Node (Written → Written) node_step) (out-Node n)) rest)

-- a node is added behind the others
pub written_more : (ns : List Node) (n : Node) → written_of (ns ++ n ∷ []) ≡ followed (written_of ns) (node_of n Nothing)
written_more [] n = refl
written_more (m ∷ ns) n =
    let one = node_of n Nothing in
    let before = node_of m Nothing in
    node_followed m (written_of (ns ++ n ∷ [])) ∙ ap (followed before) (written_more ns n) ∙ sym (followed_assoc before (written_of ns) one) ∙ ap (λ w. followed w one) (sym (node_followed m (written_of ns)))

-- what is read of a list, of which these are read and these are left
abbrev pub rest_of : Lists → List ℕ → ℕ → json.Items → List Node → Reading Written LoadFault
rest_of reads path i left front = map_ok (followed (written_of front)) (each_node reads path i left)

none_front : (r : Reading Written LoadFault) → r ≡ map_ok (followed Nothing) r
none_front (Ok w) = refl
none_front (Err e) = refl

appended : (r : Reading Written LoadFault) (front n : Written) → map_ok (followed front) (map_ok (followed n) r) ≡ map_ok (followed (followed front n)) r
appended (Ok w) front n = ap Ok (sym (followed_assoc front n w))
appended (Err e) front n = refl

-- at first all are left
pub nodes_begun : (reads : Lists) (path : List ℕ) (ds : json.Items) (front : List Node) → front ≡ [] → each_node reads path 0 ds ≡ rest_of reads path 0 ds front
nodes_begun reads path ds front none = none_front (each_node reads path 0 ds) ∙ ap (rest_of reads path 0 ds) (sym none)

-- then one after another is read
first_left : (reads : Lists) (path : List ℕ) (i : ℕ) (d : json.Data) (ds left : json.Items) (front : List Node) → left ≡ json.item d ds
    → rest_of reads path i left front ≡ map_ok (followed (written_of front)) (and_then (reads (below path (decimal i)) d) (λ w. map_ok (followed w) (each_node reads path (i + 1) ds)))
first_left reads path i d ds left front is = ap (λ l. rest_of reads path i l front) is

pub node_taken : (reads : Lists) (path : List ℕ) (i : ℕ) (d : json.Data) (ds left : json.Items) (front after : List Node) (n : Node) (whole : Reading Written LoadFault) → left ≡ json.item d ds → after ≡ front ++ n ∷ []
    → whole ≡ rest_of reads path i left front → reads (below path (decimal i)) d ≡ Ok (node_of n Nothing) → whole ≡ rest_of reads path (i + 1) ds after
node_taken reads path i d ds left front after n whole is more before read =
    before ∙ first_left reads path i d ds left front is ∙ ap (λ r. map_ok (followed (written_of front)) (and_then r (λ w. map_ok (followed w) (each_node reads path (i + 1) ds)))) read
    ∙ appended (each_node reads path (i + 1) ds) (written_of front) (node_of n Nothing) ∙ ap (λ w. map_ok (followed w) (each_node reads path (i + 1) ds)) (sym (written_more front n))
    ∙ ap (rest_of reads path (i + 1) ds) (sym more)

-- and at last none is left
pub nodes_read : (reads : Lists) (path : List ℕ) (i : ℕ) (left : json.Items) (front : List Node) (whole : Reading Written LoadFault) → left ≡ json.no_items → whole ≡ rest_of reads path i left front
    → whole ≡ Ok (written_of front)
nodes_read reads path i left front whole none before = before ∙ ap (λ l. rest_of reads path i l front) none ∙ ap Ok (followed_nothing (written_of front))

pub none_left : (vs : List Value) (i : ℕ) → length vs ≤ i → items_view (drop i vs) ≡ json.no_items
none_left vs i past = at_drop_all items_view vs i past

-- a block where there is room for one
pub inner_is : (left : ℕ) → left ≢ 0 → inner left ≡ block (nodes (left - 1))
unfolding nodes
inner_is zero room = absurd (room refl)
inner_is (suc left) room = let is : suc left - 1 ≡ left = omega arith in rw is refl
