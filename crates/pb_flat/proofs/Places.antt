-- The places of runs, part by part.
use Rattle.std.proofs.Common.{◌≡◌, ℕ, zero, suc, ◌+◌, ◌-◌, ◌≤◌, Bool, true, false, List, [], ◌∷◌, ◌++◌, length, get_or, drop, reverse, refl, sym, ap, ◌∙◌, arith}
use Rattle.std.specs.Prelude.{◌&&◌, if◌then◌else◌, Result, Ok, Err, IfOk}
use Rattle.std.specs.List.{range_with_len}
use Rattle.std.proofs.lemmas.List.{reverse-append, append-nil}
use Rattle.pb_tree.specs.declared.tree.Node.{Node}
use Rattle.pb_tree.specs.Tree.{Nodes, Nothing, Task, Block, Flush, TreeOf, size, size_of}
use Rattle.pb_tree.specs.View.{node_of, tree_of}
use Rattle.pb_tree.specs.Walk.{ends_in_flush, front}
use Rattle.pb_tree.proofs.Split.{size_turn}
use Rattle.pb_flat.specs.declared.step.Step.{Step}
use Rattle.pb_flat.specs.Places.{step_places, run_places, places_in, RunsInOrder, AddsPlaces, last_places, forced_places, whole_places}

pub places_more : (steps : List Step) (step : Step) → places_in (steps ++ step ∷ []) ≡ step_places step (places_in steps)
unfolding places_in
places_more steps step = rw (reverse-append steps (step ∷ [])) refl

pub places_none : places_in [] ≡ []
unfolding places_in
places_none = refl

-- numbers in a row, and those behind them
ranges : (a m b n : ℕ) (xs : List ℕ) → a + m ≡ b → range_with_len a m ++ (range_with_len b n ++ xs) ≡ range_with_len a (m + n) ++ xs
ranges a zero b n xs e =
    let first : b ≡ a = omega (arith, e) in
    let all : n ≡ zero + n = omega arith in
    λ i. range_with_len (first i) (all i) ++ xs
ranges a (suc m) b n xs e =
    let all : suc (m + n) ≡ suc m + n = omega arith in
    ap (λ (ys : List ℕ). a ∷ ys) (ranges (a + 1) m b n xs (omega (arith, e))) ∙ ap (λ (k : ℕ). range_with_len a k ++ xs) all

-- a part in front of another one
pub both_added : (old mid new : List Step) (a m b n count : ℕ) → a + m ≡ b → m + n ≡ count → AddsPlaces old mid b n → AddsPlaces mid new a m → AddsPlaces old new a count
both_added old mid new a m b n count e c l k =
    k ∙ ap (λ (xs : List ℕ). range_with_len a m ++ xs) l ∙ ranges a m b n (places_in old) e ∙ ap (λ (i : ℕ). range_with_len a i ++ places_in old) c

-- a part without places
pub none_added : (old new : List Step) (a b n count : ℕ) → AddsPlaces old new a n → n ≡ 0 → count ≡ 0 → AddsPlaces old new b count
none_added old new a b n count l e c =
    l ∙ ap (λ (i : ℕ). range_with_len a i ++ places_in old) e ∙ ap (λ (i : ℕ). range_with_len b i ++ places_in old) (sym c)

-- ---- handlers
pub handler_added : (old mid new : List Step) (at h h2 n : ℕ) → h2 + 1 ≡ h → h ≤ n → AddsPlaces old mid (at + h) (n - h) → places_in new ≡ (at + h2) ∷ places_in mid → AddsPlaces old new (at + h2) (n - h2)
handler_added old mid new at h h2 n e le l k =
    let next : (at + h2) + 1 ≡ at + h = omega (arith, e) in
    let left : suc (n - h) ≡ n - h2 = omega (arith, e, le) in
    k
    ∙ ap (λ (xs : List ℕ). (at + h2) ∷ xs) l
    ∙ ap (λ (i : ℕ). (at + h2) ∷ (range_with_len i (n - h) ++ places_in old)) (sym next)
    ∙ ap (λ (i : ℕ). range_with_len (at + h2) i ++ places_in old) left

pub no_handlers_added : (steps : List Step) (at n : ℕ) → AddsPlaces steps steps (at + n) (n - n)
no_handlers_added steps at n = let e : n - n ≡ 0 = omega arith in ap (λ (i : ℕ). range_with_len (at + n) i ++ places_in steps) (sym e)

pub handlers_added : (old new : List Step) (at h n : ℕ) → h ≡ 0 → AddsPlaces old new (at + h) (n - h) → AddsPlaces old new at n
handlers_added old new at h n e l =
    let a : at + h ≡ at = omega (arith, e) in
    let b : n - h ≡ n = omega (arith, e) in
    l ∙ (λ i. range_with_len (a i) (b i) ++ places_in old)

-- ---- nodes
pub nodes_added : (old mid new : List Step) (handlers i i2 : ℕ) (nodes : List Node) (x : Node) (at at2 : ℕ) → i2 + 1 ≡ i → i ≤ length nodes → x ≡ get_or nodes i2 x
    → at2 + size handlers (node_of x Nothing) ≡ at
    → AddsPlaces old mid at (size handlers (tree_of (drop i nodes)))
    → AddsPlaces mid new at2 (size handlers (node_of x Nothing))
    → AddsPlaces old new at2 (size handlers (tree_of (drop i2 nodes)))
nodes_added old mid new handlers i i2 nodes x at at2 e le is p l k =
    let turn = size_turn handlers i2 nodes x (omega (arith, e, le)) is in
    let same : size handlers (tree_of (drop (i2 + 1) nodes)) ≡ size handlers (tree_of (drop i nodes)) = ap (λ (n : ℕ). size handlers (tree_of (drop n nodes))) e in
    both_added old mid new at2 (size handlers (node_of x Nothing)) at (size handlers (tree_of (drop i nodes))) (size handlers (tree_of (drop i2 nodes))) p (omega (arith, turn, same)) l k

-- ---- a block: its always part, its rescue and its body
pub block_added : (old s1 s2 new : List Step) (handlers : ℕ) (body rescue always : Nodes) (end a r at : ℕ)
    → a + size handlers always ≡ end → r + size handlers rescue ≡ a → at + size handlers body ≡ r
    → AddsPlaces old s1 a (size handlers always) → AddsPlaces s1 s2 r (size handlers rescue) → AddsPlaces s2 new at (size handlers body)
    → AddsPlaces old new at (size handlers (Block body rescue always Nothing))
block_added old s1 s2 new handlers body rescue always end a r at ea er eb la lr lb =
    let behind = both_added old s1 s2 r (size handlers rescue) a (size handlers always) (size handlers rescue + size handlers always) er (omega arith) la lr in
    both_added old s2 new at (size handlers body) r (size handlers rescue + size handlers always) (size handlers (Block body rescue always Nothing)) eb (omega arith) behind lb

-- two facts of one result
pub ok_both : {T E : Type 0} (r : Result T E) (P Q R : T → Type 0) → ((x : T) → P x → Q x → R x) → IfOk r P → IfOk r Q → IfOk r R
ok_both (Ok x) P Q R f p q = f x p q
ok_both (Err e) P Q R f p q = tt

-- ---- a whole play
pub plain_added : (old new : List Step) (at count end : ℕ) → places_in old ≡ [] → at + count ≡ end → end ≡ count → AddsPlaces old new at count → places_in new ≡ range_with_len 0 count
plain_added old new at count end none p e l =
    let first : at ≡ 0 = omega (arith, p, e) in
    l ∙ ap (λ (xs : List ℕ). range_with_len at count ++ xs) none ∙ append-nil (range_with_len at count) ∙ ap (λ (i : ℕ). range_with_len i count) first

-- the last Flush three times, and the nodes in front of it
pub forced_added : (old s1 s2 s3 new : List Step) (handlers : ℕ) (before : Nodes) (end g b h at : ℕ) → places_in old ≡ [] → end ≡ size handlers before + handlers
    → g + handlers ≡ end → b + handlers ≡ end → h + handlers ≡ end → at + size handlers before ≡ g
    → AddsPlaces old s1 g handlers → AddsPlaces s1 s2 b handlers → AddsPlaces s2 s3 h handlers → AddsPlaces s3 new at (size handlers before)
    → places_in new ≡ forced_places handlers before
forced_added old s1 s2 s3 new handlers before end g b h at none e eg eb eh ea lg lb lh l =
    let n = size handlers before in
    let last = range_with_len n handlers in
    let fg : g ≡ n = omega (arith, e, eg) in
    let fb : b ≡ n = omega (arith, e, eb) in
    let fh : h ≡ n = omega (arith, e, eh) in
    let fa : at ≡ 0 = omega (arith, fg, ea) in
    let first : places_in s1 ≡ last = lg ∙ (λ i. range_with_len (fg i) handlers ++ none i) ∙ append-nil last in
    let second : places_in s2 ≡ last ++ last = lb ∙ (λ i. range_with_len (fb i) handlers ++ first i) in
    let third : places_in s3 ≡ last ++ (last ++ last) = lh ∙ (λ i. range_with_len (fh i) handlers ++ second i) in
    l ∙ (λ i. range_with_len (fa i) n ++ third i)

front_size : (handlers : ℕ) (nodes : Nodes) → ends_in_flush nodes ≡ true → size handlers nodes ≡ size handlers (front nodes) + handlers
front_size handlers Nothing e = cc
front_size handlers (Task rest) e = let i = front_size handlers rest e in omega arith
front_size handlers (Block body rescue always rest) e = let i = front_size handlers rest e in omega arith
front_size handlers (Flush Nothing) e = omega arith
front_size handlers (Flush (Task rest)) e = let i = front_size handlers (Task rest) e in omega arith
front_size handlers (Flush (Block body rescue always rest)) e = let i = front_size handlers (Block body rescue always rest) e in omega arith
front_size handlers (Flush (Flush rest)) e = let i = front_size handlers (Flush rest) e in omega arith

forced_ordered : (tree : TreeOf) → ends_in_flush tree.nodes ≡ true → forced_places tree.handlers (front tree.nodes) ≡ range_with_len 0 (size_of tree) ++ (last_places tree ++ last_places tree)
forced_ordered tree e =
    let n = size tree.handlers (front tree.nodes) in
    let s = front_size tree.handlers tree.nodes e in
    let first : n ≡ size_of tree - tree.handlers = omega (arith, s) in
    let all : n + tree.handlers ≡ size_of tree = sym s in
    ranges 0 n n tree.handlers (range_with_len n tree.handlers ++ range_with_len n tree.handlers) (omega arith)
    ∙ (λ i. range_with_len 0 (all i) ++ (range_with_len (first i) tree.handlers ++ range_with_len (first i) tree.handlers))

whole_ordered : (tree : TreeOf) (force ends : Bool) → ends_in_flush tree.nodes ≡ ends
    → (if force && ends then forced_places tree.handlers (front tree.nodes) else range_with_len 0 (size_of tree)) ≡ range_with_len 0 (size_of tree) ++ (if force && ends then last_places tree ++ last_places tree else [])
whole_ordered tree true true e = forced_ordered tree e
whole_ordered tree true false e = sym (append-nil (range_with_len 0 (size_of tree)))
whole_ordered tree false ends e = sym (append-nil (range_with_len 0 (size_of tree)))

pub runs_in_order : (draft steps : List Step) (handlers : ℕ) (force : Bool) (nodes : Nodes) (tree : TreeOf) → steps ≡ reverse draft → handlers ≡ tree.handlers → force ≡ tree.force_handlers → nodes ≡ tree.nodes
    → places_in draft ≡ whole_places handlers force nodes → RunsInOrder steps tree
unfolding places_in
runs_in_order draft steps handlers force nodes tree r h f m p =
    ap run_places r ∙ p ∙ (λ i. whole_places (h i) (f i) (m i)) ∙ whole_ordered tree tree.force_handlers (ends_in_flush tree.nodes) refl
