-- The paths of a tree strictly rise.
use Rattle.std.proofs.Common.{◌≡◌, ◌∙◌, ℕ, zero, suc, ◌+◌, ◌<◌, ◌≤◌, List, [], ◌∷◌, ◌++◌, refl, sym, ap, arith, append_assoc}
use Rattle.std.specs.List.{AllByRecursion}
use Rattle.std.specs.List.Sorted.{IsStrictlySortedBy}
use Rattle.std.specs.Cmp.{nat_cmp_is}
use Rattle.std.specs.Cmp.Lexicographic.{slice_cmp}
use Rattle.std.specs.Ordering.{nat_cmp, ordering_then}
use Rattle.std.specs.declared.cmp.Ordering.{Ordering}
use Rattle.std.specs.declared.cmp.Ordering.TheVariants.{Less, Equal}
use Rattle.pb_tree.specs.Tree.{Nodes, Nothing, Task, Block, Flush, paths_from, handler_paths}
use Rattle.pb_tree.specs.Laws.{PathsRise}

-- ---- lists of paths
abbrev IsBelow : List ℕ → List ℕ → Type 0
IsBelow p q = slice_cmp nat_cmp p q ≡ Less

-- below each of these paths
abbrev AllBelow : List (List ℕ) → List ℕ → Type 0
AllBelow qs p = AllByRecursion (λ q. IsBelow p q) qs

every : {P Q : List ℕ → Type 0} → ((q : List ℕ) → P q → Q q) → (qs : List (List ℕ)) → AllByRecursion P qs → AllByRecursion Q qs
every f [] a = tt
every f (q ∷ qs) a = (f q (a.0), every f qs (a.1))

every_append : (P : List ℕ → Type 0) (ps qs : List (List ℕ)) → AllByRecursion P ps → AllByRecursion P qs → AllByRecursion P (ps ++ qs)
every_append P [] qs a b = b
every_append P (p ∷ ps) qs a b = (a.0, every_append P ps qs (a.1) b)

all_pairs : {P Q : List ℕ → Type 0} → ((p q : List ℕ) → P p → Q q → IsBelow p q) → (ps qs : List (List ℕ)) → AllByRecursion P ps → AllByRecursion Q qs → AllByRecursion (AllBelow qs) ps
all_pairs f ps qs a b = every (λ p x. every (λ q y. f p q x y) qs b) ps a

rising_append : (ps qs : List (List ℕ)) → IsStrictlySortedBy (slice_cmp nat_cmp) ps → IsStrictlySortedBy (slice_cmp nat_cmp) qs → AllByRecursion (AllBelow qs) ps → IsStrictlySortedBy (slice_cmp nat_cmp) (ps ++ qs)
unfolding IsStrictlySortedBy
rising_append [] qs s t a = t
rising_append (p ∷ ps) qs s t a = (every_append (IsBelow p) ps qs (s.0) (a.0), rising_append ps qs (s.1) t (a.1))

-- ---- two paths
-- the first step that differs orders them
less_steps : (path : List ℕ) (k m : ℕ) (s t : List ℕ) → k < m → IsBelow (path ++ k ∷ s) (path ++ m ∷ t)
less_steps [] k m s t lt = ap (λ (o : Ordering). ordering_then o (slice_cmp nat_cmp s t)) (sym (nat_cmp_is k m Less lt))
less_steps (x ∷ path) k m s t lt =
    ap (λ (o : Ordering). ordering_then o (slice_cmp nat_cmp (path ++ k ∷ s) (path ++ m ∷ t))) (sym (nat_cmp_is x x Equal refl)) ∙ less_steps path k m s t lt

-- below this path, by a step from this number on
abbrev From : List ℕ → ℕ → List ℕ → Type 0
From path i q = (k : ℕ) × (i ≤ k) × (s : List ℕ) × (q ≡ path ++ k ∷ s)

less_from : (path : List ℕ) (i : ℕ) (p s q : List ℕ) → p ≡ path ++ i ∷ s → From path (i + 1) q → IsBelow p q
less_from path i p s q e f =
    let le = f.1 in
    let lt : i < f.0 = omega arith in
    (λ x. slice_cmp nat_cmp (e x) (f.3 x)) ∙ less_steps path i (f.0) s (f.2) lt

later : (path : List ℕ) (i : ℕ) (q : List ℕ) → From path (i + 1) q → From path i q
later path i q f = let before = f.1 in let le : i ≤ f.0 = omega arith in (f.0, le, f.2, f.3)

first : (path : List ℕ) (i : ℕ) (s q : List ℕ) → q ≡ path ++ i ∷ s → From path i q
first path i s q e = let le : i ≤ i = omega arith in (i, le, s, e)

-- what is in the Flush with number i, and in part j of the block with number i
flush_is : (path : List ℕ) (i : ℕ) (q : List ℕ) (f : From (path ++ i ∷ []) 0 q) → q ≡ path ++ i ∷ f.0 ∷ f.2
flush_is path i q f = f.3 ∙ append_assoc path (i ∷ []) (f.0 ∷ f.2)

in_flush : (path : List ℕ) (i : ℕ) (q : List ℕ) → From (path ++ i ∷ []) 0 q → From path i q
in_flush path i q f = first path i (f.0 ∷ f.2) q (flush_is path i q f)

block_is : (path : List ℕ) (i j : ℕ) (q : List ℕ) (f : From (path ++ i ∷ j ∷ []) 0 q) → q ≡ path ++ i ∷ j ∷ f.0 ∷ f.2
block_is path i j q f = f.3 ∙ append_assoc path (i ∷ j ∷ []) (f.0 ∷ f.2)

in_block : (path : List ℕ) (i j : ℕ) (q : List ℕ) → From (path ++ i ∷ j ∷ []) 0 q → From path i q
in_block path i j q f = first path i (j ∷ f.0 ∷ f.2) q (block_is path i j q f)

part_is : (path : List ℕ) (i j : ℕ) (q : List ℕ) (f : From (path ++ i ∷ j ∷ []) 0 q) → q ≡ (path ++ i ∷ []) ++ j ∷ f.0 ∷ f.2
part_is path i j q f = block_is path i j q f ∙ sym (append_assoc path (i ∷ []) (j ∷ f.0 ∷ f.2))

less_parts : (path : List ℕ) (i j k : ℕ) → j < k → (p q : List ℕ) → From (path ++ i ∷ j ∷ []) 0 p → From (path ++ i ∷ k ∷ []) 0 q → IsBelow p q
less_parts path i j k lt p q f g =
    (λ x. slice_cmp nat_cmp (part_is path i j p f x) (part_is path i k q g x)) ∙ less_steps (path ++ i ∷ []) j k (f.0 ∷ f.2) (g.0 ∷ g.2) lt

less_behind : (path : List ℕ) (i j : ℕ) (p q : List ℕ) → From (path ++ i ∷ j ∷ []) 0 p → From path (i + 1) q → IsBelow p q
less_behind path i j p q f g = less_from path i p (j ∷ f.0 ∷ f.2) q (block_is path i j p f) g

flush_behind : (path : List ℕ) (i : ℕ) (p q : List ℕ) → From (path ++ i ∷ []) 0 p → From path (i + 1) q → IsBelow p q
flush_behind path i p q f g = less_from path i p (f.0 ∷ f.2) q (flush_is path i p f) g

-- ---- all paths
from_handlers : (path : List ℕ) (h left : ℕ) → AllByRecursion (From path h) (handler_paths path h left)
from_handlers path h zero = tt
from_handlers path h (suc left) = (first path h [] (path ++ h ∷ []) refl, every (later path h) (handler_paths path (h + 1) left) (from_handlers path (h + 1) left))

from_paths : (handlers : ℕ) (path : List ℕ) (i : ℕ) (nodes : Nodes) → AllByRecursion (From path i) (paths_from handlers path i nodes)
from_paths handlers path i Nothing = tt
from_paths handlers path i (Task rest) = (first path i [] (path ++ i ∷ []) refl, every (later path i) (paths_from handlers path (i + 1) rest) (from_paths handlers path (i + 1) rest))
from_paths handlers path i (Block body rescue always rest) =
    let b = paths_from handlers (path ++ i ∷ 0 ∷ []) 0 body in
    let r = paths_from handlers (path ++ i ∷ 1 ∷ []) 0 rescue in
    let l = paths_from handlers (path ++ i ∷ 2 ∷ []) 0 always in
    let e = paths_from handlers path (i + 1) rest in
    every_append (From path i) (b ++ r ++ l) e
    (every_append (From path i) (b ++ r) l
    (every_append (From path i) b r (every (in_block path i 0) b (from_paths handlers (path ++ i ∷ 0 ∷ []) 0 body)) (every (in_block path i 1) r (from_paths handlers (path ++ i ∷ 1 ∷ []) 0 rescue)))
    (every (in_block path i 2) l (from_paths handlers (path ++ i ∷ 2 ∷ []) 0 always)))
    (every (later path i) e (from_paths handlers path (i + 1) rest))
from_paths handlers path i (Flush rest) =
    every_append (From path i) (handler_paths (path ++ i ∷ []) 0 handlers) (paths_from handlers path (i + 1) rest)
    (every (in_flush path i) (handler_paths (path ++ i ∷ []) 0 handlers) (from_handlers (path ++ i ∷ []) 0 handlers))
    (every (later path i) (paths_from handlers path (i + 1) rest) (from_paths handlers path (i + 1) rest))

handlers_rise : (path : List ℕ) (h left : ℕ) → IsStrictlySortedBy (slice_cmp nat_cmp) (handler_paths path h left)
unfolding IsStrictlySortedBy
handlers_rise path h zero = tt
handlers_rise path h (suc left) =
    (every (λ q f. less_from path h (path ++ h ∷ []) [] q refl f) (handler_paths path (h + 1) left) (from_handlers path (h + 1) left), handlers_rise path (h + 1) left)

task_rises : (path : List ℕ) (i : ℕ) (qs : List (List ℕ)) → AllByRecursion (From path (i + 1)) qs → IsStrictlySortedBy (slice_cmp nat_cmp) qs → IsStrictlySortedBy (slice_cmp nat_cmp) ((path ++ i ∷ []) ∷ qs)
unfolding IsStrictlySortedBy
task_rises path i qs a s = (every (λ q f. less_from path i (path ++ i ∷ []) [] q refl f) qs a, s)

none_rise : IsStrictlySortedBy (slice_cmp nat_cmp) []
unfolding IsStrictlySortedBy
none_rise = tt

nodes_rise : (handlers : ℕ) (path : List ℕ) (i : ℕ) (nodes : Nodes) → IsStrictlySortedBy (slice_cmp nat_cmp) (paths_from handlers path i nodes)
nodes_rise handlers path i Nothing = none_rise
nodes_rise handlers path i (Task rest) =
    task_rises path i (paths_from handlers path (i + 1) rest) (from_paths handlers path (i + 1) rest) (nodes_rise handlers path (i + 1) rest)
nodes_rise handlers path i (Block body rescue always rest) =
    let b = paths_from handlers (path ++ i ∷ 0 ∷ []) 0 body in
    let r = paths_from handlers (path ++ i ∷ 1 ∷ []) 0 rescue in
    let l = paths_from handlers (path ++ i ∷ 2 ∷ []) 0 always in
    let e = paths_from handlers path (i + 1) rest in
    let in_b = from_paths handlers (path ++ i ∷ 0 ∷ []) 0 body in
    let in_r = from_paths handlers (path ++ i ∷ 1 ∷ []) 0 rescue in
    let in_l = from_paths handlers (path ++ i ∷ 2 ∷ []) 0 always in
    let in_e = from_paths handlers path (i + 1) rest in
    let two = rising_append b r (nodes_rise handlers (path ++ i ∷ 0 ∷ []) 0 body) (nodes_rise handlers (path ++ i ∷ 1 ∷ []) 0 rescue)
    (all_pairs (less_parts path i 0 1 (omega arith)) b r in_b in_r) in
    let three = rising_append (b ++ r) l two (nodes_rise handlers (path ++ i ∷ 2 ∷ []) 0 always)
    (every_append (AllBelow l) b r (all_pairs (less_parts path i 0 2 (omega arith)) b l in_b in_l) (all_pairs (less_parts path i 1 2 (omega arith)) r l in_r in_l)) in
    rising_append (b ++ r ++ l) e three (nodes_rise handlers path (i + 1) rest)
    (every_append (AllBelow e) (b ++ r) l (every_append (AllBelow e) b r (all_pairs (less_behind path i 0) b e in_b in_e) (all_pairs (less_behind path i 1) r e in_r in_e))
    (all_pairs (less_behind path i 2) l e in_l in_e))
nodes_rise handlers path i (Flush rest) =
    rising_append (handler_paths (path ++ i ∷ []) 0 handlers) (paths_from handlers path (i + 1) rest) (handlers_rise (path ++ i ∷ []) 0 handlers) (nodes_rise handlers path (i + 1) rest)
    (all_pairs (flush_behind path i) (handler_paths (path ++ i ∷ []) 0 handlers) (paths_from handlers path (i + 1) rest) (from_handlers (path ++ i ∷ []) 0 handlers) (from_paths handlers path (i + 1) rest))

pub paths_rise : PathsRise
paths_rise tree = nodes_rise tree.handlers [] 0 tree.nodes
