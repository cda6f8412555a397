-- What stands at the places of the nodes that are written in a play, node by node.
use Rattle.std.proofs.Common.{◌≡◌, ℕ, zero, suc, ◌+◌, ◌<◌, ◌≤◌, Bool, false, ◌||◌, List, [], ◌∷◌, ◌++◌, map, length, get_or, drop, None, Some, refl, sym, ap, subst, ◌∙◌, append_assoc, arith, Vec, Global}
use Rattle.std.specs.Prelude.{not, nat_eq}
use Rattle.std.proofs.lemmas.List.{append-nil, drop_all, drop_more}
use Rattle.pb_play.specs.declared.node.BlockKeys.{BlockKeys}
use Rattle.pb_play.specs.declared.node.Node.{Node, Task as ATask, Block as ABlock}
use Rattle.pb_play.specs.declared.node.Node.TheVariants.{Flush as AFlush}
use Rattle.pb_play.specs.declared.node.Node.TheOpen.{Node-F, Task as OpenTask, Block as OpenBlock, Flush as OpenFlush}
use Rattle.pb_play.specs.Nodes.{Written, Nothing, Task, Block, Flush}
use Rattle.pb_play.specs.View.{node_of, node_step, written_of}
use Rattle.pb_play.specs.declared.task.Task.{Task as OneTask}
use Rattle.pb_places.specs.Place.{PlaceOf}
use Rattle.pb_handlers.specs.declared.naming.HandlerNames.{HandlerNames}
use Rattle.pb_roles.specs.Building.{Flushed, InheritedOf, TaskIn, inside, is_nothing, all_places, flush_from, flush_places, flushed_in, part_places, placed, places_of, inherited_of, section_places, task_of}
use Rattle.pb_roles.specs.Sections.{names_of}
use Rattle.pb_roles.specs.declared.collected.HandlerIn.{HandlerIn}
use Rattle.pb_roles.specs.declared.collected.Section.{Section}
use Rattle.pb_roles.specs.declared.sections.PlayKeys.{PlayKeys}
use Rattle.pb_roles.specs.declared.sections.Sections.{Sections}
use Rattle.pb_roles.proofs.PlayNodes.{each_level, is_none, written_block, written_flush, written_task, written_turn}

-- ---- places

step_places : (flushed : Flushed) (inherited : InheritedOf) (is_caught : Bool) (rest : Written) (n : Node-F (Written → Written))
    → places_of flushed inherited is_caught (node_step n rest) ≡ places_of flushed inherited is_caught (node_step n Nothing) ++ places_of flushed inherited is_caught rest
step_places flushed inherited is_caught rest (OpenTask task) = refl
step_places flushed inherited is_caught rest (OpenBlock block body rescue always) = ap (λ (ps : List PlaceOf). ps ++ places_of flushed inherited is_caught rest) (sym (append-nil _))
step_places flushed inherited is_caught rest OpenFlush = ap (λ (ps : List PlaceOf). ps ++ places_of flushed inherited is_caught rest) (sym (append-nil _))

-- the places of a node, and of those behind it
pub places_split : (flushed : Flushed) (inherited : InheritedOf) (is_caught : Bool) (n : Node) (rest : Written)
    → places_of flushed inherited is_caught (node_of n rest) ≡ places_of flushed inherited is_caught (node_of n Nothing) ++ places_of flushed inherited is_caught rest
places_split flushed inherited is_caught n rest =
    each_level (λ g. places_of flushed inherited is_caught (g rest) ≡ places_of flushed inherited is_caught (g Nothing) ++ places_of flushed inherited is_caught rest) (step_places flushed inherited is_caught rest) n

-- the places of one node were added, and those of the nodes behind it are to come
pub node_placed : (flushed : Flushed) (inherited : InheritedOf) (is_caught : Bool) (old mid new : List PlaceOf) (nodes rest : List Node) (n : Node) (all : Written) → nodes ≡ n ∷ rest
    → mid ++ places_of flushed inherited is_caught (written_of nodes) ≡ old ++ places_of flushed inherited is_caught all
    → new ≡ mid ++ places_of flushed inherited is_caught (node_of n Nothing)
    → new ++ places_of flushed inherited is_caught (written_of rest) ≡ old ++ places_of flushed inherited is_caught all
node_placed flushed inherited is_caught old mid new nodes rest n all steps before pushed =
    ap (λ (ps : List PlaceOf). ps ++ places_of flushed inherited is_caught (written_of rest)) pushed
    ∙ append_assoc mid (places_of flushed inherited is_caught (node_of n Nothing)) (places_of flushed inherited is_caught (written_of rest))
    ∙ ap (λ (ps : List PlaceOf). mid ++ ps) (sym (places_split flushed inherited is_caught n (written_of rest)) ∙ ap (λ (ns : List Node). places_of flushed inherited is_caught (written_of ns)) (sym steps))
    ∙ before

pub all_placed : (flushed : Flushed) (inherited : InheritedOf) (is_caught : Bool) (old new : List PlaceOf) (nodes : List Node) (all : Written) → nodes ≡ []
    → new ++ places_of flushed inherited is_caught (written_of nodes) ≡ old ++ places_of flushed inherited is_caught all → new ≡ old ++ places_of flushed inherited is_caught all
all_placed flushed inherited is_caught old new nodes all none is =
    sym (append-nil new) ∙ ap (λ (ns : List Node). new ++ places_of flushed inherited is_caught (written_of ns)) (sym none) ∙ is

-- a task of its own, and a place for handlers
pub task_placed : (flushed : Flushed) (names : List HandlerNames) (inherited : InheritedOf) (is_caught : Bool) (old new : List PlaceOf) (n : Node) (task : OneTask) → n ≡ ATask task → names ≡ flushed.names
    → new ≡ old ++ placed names inherited is_caught None task ∷ [] → new ≡ old ++ places_of flushed inherited is_caught (node_of n Nothing)
task_placed flushed names inherited is_caught old new n task is same pushed =
    pushed
    ∙ ap (λ (ns : List HandlerNames). old ++ placed ns inherited is_caught None task ∷ []) same
    ∙ sym (ap (λ (m : Node). old ++ places_of flushed inherited is_caught (node_of m Nothing)) is ∙ ap (λ (w : Written). old ++ places_of flushed inherited is_caught w) (written_task task Nothing))

pub flush_placed : (flushed : Flushed) (inherited : InheritedOf) (is_caught : Bool) (old new : List PlaceOf) (n : Node) → n ≡ AFlush → new ≡ old ++ flush_places flushed is_caught
    → new ≡ old ++ places_of flushed inherited is_caught (node_of n Nothing)
flush_placed flushed inherited is_caught old new n is pushed =
    pushed
    ∙ ap (λ (ps : List PlaceOf). old ++ ps) (sym (append-nil (flush_places flushed is_caught)))
    ∙ sym (ap (λ (m : Node). old ++ places_of flushed inherited is_caught (node_of m Nothing)) is ∙ ap (λ (w : Written). old ++ places_of flushed inherited is_caught w) (written_flush Nothing))

-- the three parts of a block
pub block_placed : (flushed : Flushed) (inherited within : InheritedOf) (is_caught is_rescued : Bool) (old one two three : List PlaceOf) (n : Node) (block : BlockKeys) (body rescue always : Vec Node Global)
    → n ≡ ABlock block body rescue always → within ≡ inside inherited block → is_rescued ≡ (is_caught || not (is_nothing (written_of rescue.items)))
    → one ≡ old ++ places_of flushed within is_rescued (written_of body.items)
    → two ≡ one ++ places_of flushed within is_caught (written_of rescue.items)
    → three ≡ two ++ places_of flushed within is_caught (written_of always.items)
    → three ≡ old ++ places_of flushed inherited is_caught (node_of n Nothing)
block_placed flushed inherited within is_caught is_rescued old one two three n block body rescue always is inherited_is rescued a b c =
    rw (is, written_block block body rescue always Nothing, c, b, a, inherited_is, rescued) (joined old _ _ _)
  where
    joined : (os xs ys zs : List PlaceOf) → ((os ++ xs) ++ ys) ++ zs ≡ os ++ (((xs ++ ys) ++ zs) ++ [])
    joined os xs ys zs = simp (append_assoc, append-nil) refl

pub rescued_is : (is_caught is_empty : Bool) (rescue : List Node) → is_empty ≡ nat_eq (length rescue) 0 → (is_caught || not is_empty) ≡ (is_caught || not (is_nothing (written_of rescue)))
rescued_is is_caught is_empty rescue e = ap (λ (b : Bool). is_caught || not b) (e ∙ sym (is_none rescue))

-- the places of one section were added, and those of the sections behind it are to come
pub section_placed : (flushed : Flushed) (keys : PlayKeys) (old mid new : List PlaceOf) (sections rest all : List Section) (s : Section) → sections ≡ s ∷ rest
    → mid ++ section_places flushed keys sections ≡ old ++ section_places flushed keys all
    → new ≡ mid ++ places_of flushed (inherited_of keys s.origin) false s.nodes
    → new ++ section_places flushed keys rest ≡ old ++ section_places flushed keys all
section_placed flushed keys old mid new sections rest all s steps before pushed =
    ap (λ (ps : List PlaceOf). ps ++ section_places flushed keys rest) pushed
    ∙ append_assoc mid (places_of flushed (inherited_of keys s.origin) false s.nodes) (section_places flushed keys rest)
    ∙ ap (λ (ss : List Section). mid ++ section_places flushed keys ss) (sym steps)
    ∙ before

pub part_placed : (flushed : Flushed) (keys : PlayKeys) (old mid new : List PlaceOf) (sections all : List Section) → sections ≡ []
    → mid ++ section_places flushed keys sections ≡ old ++ section_places flushed keys all
    → new ≡ mid ++ flush_places flushed false → new ≡ old ++ part_places flushed keys all
part_placed flushed keys old mid new sections all none is pushed =
    pushed
    ∙ ap (λ (ps : List PlaceOf). ps ++ flush_places flushed false) (sym (append-nil mid) ∙ ap (λ (ss : List Section). mid ++ section_places flushed keys ss) (sym none) ∙ is)
    ∙ append_assoc old (section_places flushed keys all) (flush_places flushed false)

-- the place of one handler was added, and those of the handlers behind it are to come
pub handler_placed : (names : List HandlerNames) (is_caught : Bool) (handlers : List TaskIn) (n : ℕ) (handler : TaskIn) (place : PlaceOf) (mid new all : List PlaceOf) → n < length handlers
    → handler ≡ get_or handlers n handler → place ≡ placed names handler.inherited is_caught (Some n) handler.task → new ≡ mid ++ place ∷ []
    → mid ++ flush_from names is_caught n (drop n handlers) ≡ all → new ++ flush_from names is_caught (n + 1) (drop (n + 1) handlers) ≡ all
handler_placed names is_caught handlers n handler place mid new all lt at is pushed before =
    ap (λ (ps : List PlaceOf). ps ++ flush_from names is_caught (n + 1) (drop (n + 1) handlers)) pushed
    ∙ append_assoc mid (place ∷ []) (flush_from names is_caught (n + 1) (drop (n + 1) handlers))
    ∙ ap (λ (p : PlaceOf). mid ++ p ∷ flush_from names is_caught (n + 1) (drop (n + 1) handlers)) is
    ∙ ap (λ (hs : List TaskIn). mid ++ flush_from names is_caught n hs) (sym (drop_more handlers n handler lt ∙ ap (λ (h : TaskIn). h ∷ drop (n + 1) handlers) (sym at)))
    ∙ before

-- the same by what the code reads: its own names and handlers, which are these
pub handler_read : (names read : List HandlerNames) (is_caught : Bool) (handlers all_read : List TaskIn) (n number : ℕ) (handler it : TaskIn) (place : PlaceOf) (mid new all : List PlaceOf) → read ≡ names
    → all_read ≡ handlers → number ≡ n → it ≡ handler → n < length all_read → handler ≡ get_or all_read n handler → place ≡ placed read it.inherited is_caught (Some number) it.task
    → new ≡ mid ++ place ∷ [] → mid ++ flush_from names is_caught n (drop n handlers) ≡ all → new ++ flush_from names is_caught (n + 1) (drop (n + 1) handlers) ≡ all
handler_read names read is_caught handlers all_read n number handler it place mid new all same_names same same_number same_handler lt at is pushed before =
    handler_placed names is_caught handlers n handler place mid new all (subst (λ (hs : List TaskIn). n < length hs) same lt) (at ∙ ap (λ (hs : List TaskIn). get_or hs n handler) same)
    (is
    ∙ ap (λ (ns : List HandlerNames). placed ns it.inherited is_caught (Some number) it.task) same_names
    ∙ ap (λ (m : ℕ). placed names it.inherited is_caught (Some m) it.task) same_number
    ∙ ap (λ (h : TaskIn). placed names h.inherited is_caught (Some n) h.task) same_handler) pushed before

pub handlers_read : (names : List HandlerNames) (is_caught : Bool) (handlers all_read : List TaskIn) (n : ℕ) (mid all : List PlaceOf) → all_read ≡ handlers → length all_read ≤ n
    → mid ++ flush_from names is_caught n (drop n handlers) ≡ all → mid ≡ all
handlers_read names is_caught handlers all_read n mid all same end before =
    sym (append-nil mid)
    ∙ ap (λ (hs : List TaskIn). mid ++ flush_from names is_caught n hs) (sym (drop_all n handlers (subst (λ (hs : List TaskIn). length hs ≤ n) same end)))
    ∙ before

-- the tasks of the handlers that are to come
pub tasks_more : (keys : PlayKeys) (old new all : List TaskIn) (left later : List HandlerIn) (h : HandlerIn) (task : TaskIn) → left ≡ h ∷ later → task ≡ task_of keys h → new ≡ old ++ task ∷ []
    → old ++ map (task_of keys) left ≡ all → new ++ map (task_of keys) later ≡ all
tasks_more keys old new all left later h task steps is pushed before =
    ap (λ (ts : List TaskIn). ts ++ map (task_of keys) later) pushed
    ∙ append_assoc old (task ∷ []) (map (task_of keys) later)
    ∙ ap (λ (t : TaskIn). old ++ t ∷ map (task_of keys) later) is
    ∙ ap (λ (hs : List HandlerIn). old ++ map (task_of keys) hs) (sym steps)
    ∙ before

pub tasks_all : (keys : PlayKeys) (old all : List TaskIn) (left : List HandlerIn) → left ≡ [] → old ++ map (task_of keys) left ≡ all → old ≡ all
tasks_all keys old all left none before = sym (append-nil old) ∙ ap (λ (hs : List HandlerIn). old ++ map (task_of keys) hs) (sym none) ∙ before

pub parts_placed : (flushed : Flushed) (play : Sections) (none one two three all : List PlaceOf) → flushed.names ≡ map names_of play.handlers
    → flushed.handlers ≡ map (task_of play.keys) play.handlers → none ≡ []
    → one ≡ none ++ part_places flushed play.keys play.pre → two ≡ one ++ part_places flushed play.keys play.tasks
    → three ≡ two ++ part_places flushed play.keys play.post → all ≡ three → all ≡ all_places play
parts_placed flushed play none one two three all names handlers empty a b c d =
    let is : flushed ≡ flushed_in play = λ i. record { names = names i; handlers = handlers i } in
    rw (d, c, b, a, empty, is) refl

-- ---- how much is written

abbrev pub weight : Written → ℕ
weight Nothing = 0
weight (Task task rest) = 1 + weight rest
weight (Block block body rescue always rest) = 1 + weight body + weight rescue + weight always + weight rest
weight (Flush rest) = 1 + weight rest

step_weight : (rest : Written) (n : Node-F (Written → Written)) → weight (node_step n rest) ≡ weight (node_step n Nothing) + weight rest
step_weight rest (OpenTask task) = omega arith
step_weight rest (OpenBlock block body rescue always) = omega arith
step_weight rest OpenFlush = omega arith

pub weight_split : (n : Node) (rest : Written) → weight (node_of n rest) ≡ weight (node_of n Nothing) + weight rest
weight_split n rest = each_level (λ g. weight (g rest) ≡ weight (g Nothing) + weight rest) (step_weight rest) n

drop_weight : (i : ℕ) (nodes : List Node) → weight (written_of (drop i nodes)) ≤ weight (written_of nodes)
drop_weight zero nodes = omega arith
drop_weight (suc i) [] = omega arith
drop_weight (suc i) (n ∷ nodes) =
    let s = weight_split n (written_of nodes) in
    let d = drop_weight i nodes in
    omega arith

-- one of some nodes has no more than all
pub weight_turn : (nodes : List Node) (i : ℕ) (x : Node) → i < length nodes → x ≡ get_or nodes i x → weight (node_of x Nothing) ≤ weight (written_of nodes)
weight_turn nodes i x lt is =
    let t = ap weight (written_turn nodes i x lt is) in
    let s = weight_split x (written_of (drop (i + 1) nodes)) in
    let d = drop_weight i nodes in
    omega arith

pub weight_first : (nodes rest : List Node) (n : Node) → nodes ≡ n ∷ rest → weight (written_of nodes) ≡ weight (node_of n Nothing) + weight (written_of rest)
weight_first nodes rest n steps = ap (λ (ns : List Node). weight (written_of ns)) steps ∙ weight_split n (written_of rest)

pub weight_here : (nodes rest : List Node) (n : Node) (most : ℕ) → nodes ≡ n ∷ rest → weight (written_of nodes) ≤ most → weight (node_of n Nothing) ≤ most
weight_here nodes rest n most steps le = let w = weight_first nodes rest n steps in omega (arith, w, le)

pub weight_later : (nodes rest : List Node) (n : Node) (most : ℕ) → nodes ≡ n ∷ rest → weight (written_of nodes) ≤ most → weight (written_of rest) ≤ most
weight_later nodes rest n most steps le = let w = weight_first nodes rest n steps in omega (arith, w, le)

pub weight_block : (n : Node) (block : BlockKeys) (body rescue always : Vec Node Global) → n ≡ ABlock block body rescue always
    → weight (node_of n Nothing) ≡ 1 + weight (written_of body.items) + weight (written_of rescue.items) + weight (written_of always.items)
weight_block n block body rescue always is = rw (is, written_block block body rescue always Nothing) (omega arith)
