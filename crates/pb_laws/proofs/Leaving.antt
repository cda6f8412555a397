-- How a host leaves a play's tree: behind an answer that isn't good, and that no rescue catches, a walk stops only in always parts round that place and in
-- the handlers that are forced.
use Rattle.std.proofs.Common.{◌≡◌, ℕ, zero, suc, ◌+◌, ◌<◌, ◌≤◌, Bool, true, false, ◌&&◌, ◌||◌, not, List, [], ◌∷◌, ◌++◌, length, replicate, refl, sym, ◌∙◌, ap, subst, arith, append_assoc, append-nil, length-append, ◌⊎◌, inl, inr}
use Rattle.std.specs.Prelude.{nat_le, nat_lt, None, slice_index_or, if◌then◌else◌}
use Rattle.std.specs.List.{list_any}
use Rattle.std.proofs.lemmas.Bool.{or_left, or_right, le-leb, lt-ltb}
use Rattle.std.proofs.lemmas.List.{length-replicate}
use Rattle.pb_places.specs.Caught.{caught_in, caught_places}
use Rattle.pb_tree.specs.Answer.{AnswerOf}
use Rattle.pb_tree.specs.Laws.{counts}
use Rattle.pb_tree.specs.Tree.{Nodes, Nothing, Task, Block, Flush, TreeOf, size}
use Rattle.pb_tree.specs.Walk.{WalkerOf, Passage, Stopped, Through, on_good, flush, walk, is_empty, ends_in_flush, front, stays_unless_gone, with_forced, forced, is_halted, without_halted, one_halted, walker_of, passage, reach_of}
use Rattle.pb_tree.specs.declared.answer.Kind.{Kind}
use Rattle.pb_tree.specs.declared.answer.Kind.TheVariants as kinds
use Rattle.pb_host.specs.Host.{place_of}
use Rattle.pb_state.proofs.StepNumbers.{and_right as and_second}
use Rattle.pb_state.proofs.Stands.{both}
use Rattle.pb_laws.specs.Laws.{is_within, is_always_for, is_forced}
use Rattle.pb_laws.proofs.Stopping.{longer, is_bad, is_over, outs, outs_good, Goes, Fits, wider, on_good_fits, middle_fits, IsKnown, known, always_fits, task_fits, flush_fits}

-- ---- where a failure is caught
get_front : (xs ys : List Bool) (k : ℕ) → k < length xs → slice_index_or (xs ++ ys) k false ≡ slice_index_or xs k false
get_front [] ys k l = absurd (omega (arith, l))
get_front (x ∷ xs) ys zero l = refl
get_front (x ∷ xs) ys (suc k) l = get_front xs ys k (omega (arith, l))

get_behind : (xs ys : List Bool) (k : ℕ) → slice_index_or (xs ++ ys) (length xs + k) false ≡ slice_index_or ys k false
get_behind [] ys k = ap (λ (j : ℕ). slice_index_or ys j false) (let same : 0 + k ≡ k = omega arith in same)
get_behind (x ∷ xs) ys k = ap (λ (j : ℕ). slice_index_or (x ∷ xs ++ ys) j false) (let same : suc (length xs) + k ≡ suc (length xs + k) = omega arith in same) ∙ get_behind xs ys k

AllTrue : List Bool → Type 0
AllTrue [] = Unit {0}
AllTrue (x ∷ xs) = (x ≡ true) × AllTrue xs

all_both : (xs ys : List Bool) → AllTrue xs → AllTrue ys → AllTrue (xs ++ ys)
unfolding AllTrue
all_both [] ys a b = b
all_both (x ∷ xs) ys a b = (a.0, all_both xs ys a.1 b)

all_same : (n : ℕ) → AllTrue (replicate n true)
unfolding AllTrue
all_same zero = tt
all_same (suc n) = (refl, all_same n)

all_at : (xs : List Bool) (k : ℕ) → AllTrue xs → k < length xs → slice_index_or xs k false ≡ true
unfolding AllTrue
all_at [] k a l = absurd (omega (arith, l))
all_at (x ∷ xs) zero a l = a.0
all_at (x ∷ xs) (suc k) a l = all_at xs k a.1 (omega (arith, l))

all_caught : (handlers : ℕ) (nodes : Nodes) → AllTrue (caught_in handlers true nodes)
unfolding AllTrue
all_caught handlers Nothing = tt
all_caught handlers (Task rest) = (refl, all_caught handlers rest)
all_caught handlers (Block body rescue always rest) =
    all_both (caught_in handlers true body ++ caught_in handlers true rescue ++ caught_in handlers true always) (caught_in handlers true rest)
    (all_both (caught_in handlers true body ++ caught_in handlers true rescue) (caught_in handlers true always)
    (all_both (caught_in handlers true body) (caught_in handlers true rescue) (all_caught handlers body) (all_caught handlers rescue)) (all_caught handlers always))
    (all_caught handlers rest)
all_caught handlers (Flush rest) = all_both (replicate handlers true) (caught_in handlers true rest) (all_same handlers) (all_caught handlers rest)

caught_length : (handlers : ℕ) (is_caught : Bool) (nodes : Nodes) → length (caught_in handlers is_caught nodes) ≡ size handlers nodes
caught_length handlers is_caught Nothing = refl
caught_length handlers is_caught (Task rest) = let i = caught_length handlers is_caught rest in omega (arith, i)
caught_length handlers is_caught (Block body rescue always rest) =
    let b = caught_length handlers (is_caught || not (is_empty rescue)) body in
    let r = caught_length handlers is_caught rescue in
    let a = caught_length handlers is_caught always in
    let l = caught_length handlers is_caught rest in
    let one = length-append (caught_in handlers (is_caught || not (is_empty rescue)) body ++ caught_in handlers is_caught rescue ++ caught_in handlers is_caught always) (caught_in handlers is_caught rest) in
    let two = length-append (caught_in handlers (is_caught || not (is_empty rescue)) body ++ caught_in handlers is_caught rescue) (caught_in handlers is_caught always) in
    let three = length-append (caught_in handlers (is_caught || not (is_empty rescue)) body) (caught_in handlers is_caught rescue) in
    omega (arith, b, r, a, l, one, two, three)
caught_length handlers is_caught (Flush rest) =
    let l = caught_length handlers is_caught rest in
    let one = length-append (replicate handlers is_caught) (caught_in handlers is_caught rest) in
    let two = length-replicate handlers is_caught in
    omega (arith, l, one, two)

-- a failure at this place isn't caught in the nodes that begin at `at`
Uncaught : Kind → ℕ → List Bool → ℕ → Type 0
Uncaught kind at caught p = is_bad kind ≡ true → (k : ℕ) → p ≡ at + k → slice_index_or caught k false ≡ false

uncaught_front : (kind : Kind) (at n : ℕ) (xs ys : List Bool) (p : ℕ) → length xs ≡ n → p < at + n → Uncaught kind at (xs ++ ys) p → Uncaught kind at xs p
unfolding Uncaught
uncaught_front kind at n xs ys p e l u = λ bad k same. sym (get_front xs ys k (omega (arith, e, l, same))) ∙ u bad k same

uncaught_behind : (kind : Kind) (at n : ℕ) (xs ys : List Bool) (p : ℕ) → length xs ≡ n → Uncaught kind at (xs ++ ys) p → Uncaught kind (at + n) ys p
unfolding Uncaught
uncaught_behind kind at n xs ys p e u = λ bad k same. sym (get_behind xs ys k) ∙ u bad (length xs + k) (omega (arith, e, same))

uncaught_rest : (kind : Kind) (at : ℕ) (x : Bool) (xs : List Bool) (p : ℕ) → Uncaught kind at (x ∷ xs) p → Uncaught kind (at + 1) xs p
unfolding Uncaught
uncaught_rest kind at x xs p u = λ bad k same. u bad (suc k) (omega (arith, same))

-- in a body, where no rescue is
no_rescue_round : (handlers : ℕ) (empty : Bool) (body : Nodes) (k : ℕ) → k < size handlers body → slice_index_or (caught_in handlers (not empty) body) k false ≡ false
    → (empty ≡ true) × (slice_index_or (caught_in handlers false body) k false ≡ false)
no_rescue_round handlers true body k l e = (refl, e)
no_rescue_round handlers false body k l e =
    let n = caught_length handlers true body in
    let caught = all_at (caught_in handlers true body) k (all_caught handlers body) (omega (arith, l, n)) in
    absurd (let both_ways : true ≡ false = sym caught ∙ e in cc)

body_uncaught : (kind : Kind) (handlers at : ℕ) (empty : Bool) (body : Nodes) (ys : List Bool) (p : ℕ) → at ≤ p → p < at + size handlers body → Uncaught kind at (caught_in handlers (not empty) body ++ ys) p
    → is_bad kind ≡ true → (k : ℕ) → p ≡ at + k → (empty ≡ true) × (slice_index_or (caught_in handlers false body) k false ≡ false)
unfolding Uncaught
body_uncaught kind handlers at empty body ys p low high u bad k same =
    no_rescue_round handlers empty body k (omega (arith, high, same))
    (uncaught_front kind at (size handlers body) (caught_in handlers (not empty) body) ys p (caught_length handlers (not empty) body) high u bad k same)

-- ---- a walk
within : (at count p : ℕ) → at ≤ p → p < at + count → is_within at count p ≡ true
within at count p low high = both (nat_le at p) (nat_lt p (at + count)) (le-leb at p low) (lt-ltb p (at + count) high)

behind : (at p : ℕ) → at ≤ p → (k : ℕ) × (p ≡ at + k)
behind zero p l = (p, omega arith)
behind (suc at) zero l = absurd (omega (arith, l))
behind (suc at) (suc p) l = let i = behind at p (omega (arith, l)) in let same = i.1 in (i.0, omega (arith, same))

walk_fits : (a : AnswerOf) (more : List AnswerOf) (handlers at : ℕ) (nodes : Nodes) (w : WalkerOf) → outs a.kind a.kind ≡ true
    → Fits a.kind (a ∷ more) (is_always_for handlers at nodes) (Uncaught a.kind at (caught_in handlers false nodes)) at (at + size handlers nodes) (walk handlers at nodes w) (walk handlers at nodes (longer (a ∷ more) w))
unfolding Uncaught
walk_fits a more handlers at Nothing w e = refl
walk_fits a more handlers at (Task rest) w e =
    on_good_fits a.kind (a ∷ more) (is_always_for handlers at (Task rest)) (Uncaught a.kind at (caught_in handlers false (Task rest))) at (at + size handlers (Task rest)) _ _ (λ v. walk handlers (at + 1) rest v)
    (task_fits a more (is_always_for handlers at (Task rest)) (Uncaught a.kind at (caught_in handlers false (Task rest))) at (at + size handlers (Task rest)) w.answers w.marks e (omega arith))
    (λ v. wider a.kind (a ∷ more) (is_always_for handlers (at + 1) rest) (is_always_for handlers at (Task rest)) (Uncaught a.kind (at + 1) (caught_in handlers false rest)) (Uncaught a.kind at (caught_in handlers false (Task rest)))
    (at + 1) (at + 1 + size handlers rest) at (at + size handlers (Task rest)) (walk handlers (at + 1) rest v) (walk handlers (at + 1) rest (longer (a ∷ more) v)) (omega arith) (omega arith)
    (λ p low high u. uncaught_rest a.kind at false (caught_in handlers false rest) p u) (λ p q m. m) (walk_fits a more handlers (at + 1) rest v e))
walk_fits a more handlers at (Block body rescue always rest) w e =
    on_good_fits a.kind (a ∷ more) may Un at hi _ _ (λ v. walk handlers (at + b + r + l) rest v)
    (wider a.kind (a ∷ more) may may Un Un at (at + b + r + l) at hi _ _ (omega arith) (omega arith) (λ p low high u. u) (λ p q m. m)
    (always_fits a.kind (a ∷ more) may Un at (at + b + r) (at + b + r + l) _ _ (λ v. walk handlers (at + b + r) always v) (omega arith) (omega arith)
    (λ p q low high from below. or_left _ _ (or_left _ _ (or_left _ _ (or_left _ _ (both (is_within at (b + r) p) (is_within (at + b + r) l q) (within at (b + r) p low (omega (arith, high))) (within (at + b + r) l q from below))))))
    (middle_fits a.kind (a ∷ more) may Un at (at + b) (at + b + r) (is_empty rescue) (walk handlers at body w) (walk handlers at body (longer (a ∷ more) w)) (λ u. walk handlers (at + b) rescue u) (omega arith)
    (λ p low high u bad. (body_uncaught a.kind handlers at (is_empty rescue) body (c_r ++ (c_a ++ c_l)) p low high (nested p u) bad (behind at p low).0 (behind at p low).1).0)
    (wider a.kind (a ∷ more) (is_always_for handlers at body) may (Uncaught a.kind at (caught_in handlers false body)) Un at (at + b) at (at + b) _ _ (omega arith) (omega arith)
    (λ p low high u. λ bad k same. (body_uncaught a.kind handlers at (is_empty rescue) body (c_r ++ (c_a ++ c_l)) p low high (nested p u) bad k same).1)
    (λ p q m. or_left _ _ (or_left _ _ (or_left _ _ (or_right (is_within at (b + r) p && is_within (at + b + r) l q) _ m))))
    (walk_fits a more handlers at body w e))
    (λ v. wider a.kind (a ∷ more) (is_always_for handlers (at + b) rescue) may (Uncaught a.kind (at + b) c_r) Un (at + b) (at + b + r) at (at + b + r) _ _ (omega arith) (omega arith)
    (λ p low high u. uncaught_front a.kind (at + b) r c_r (c_a ++ c_l) p (caught_length handlers false rescue) high (behind_body p u))
    (λ p q m. or_left _ _ (or_left _ _ (or_right ((is_within at (b + r) p && is_within (at + b + r) l q) || is_always_for handlers at body p q) _ m)))
    (walk_fits a more handlers (at + b) rescue v e)))
    (λ v. wider a.kind (a ∷ more) (is_always_for handlers (at + b + r) always) may (Uncaught a.kind (at + b + r) c_a) Un (at + b + r) (at + b + r + l) (at + b + r) (at + b + r + l) _ _ (omega arith) (omega arith)
    (λ p low high u. uncaught_front a.kind (at + b + r) l c_a c_l p (caught_length handlers false always) high (behind_rescue p u))
    (λ p q m. or_left _ _ (or_right ((is_within at (b + r) p && is_within (at + b + r) l q) || is_always_for handlers at body p q || is_always_for handlers (at + b) rescue p q) _ m))
    (walk_fits a more handlers (at + b + r) always v e))))
    (λ v. wider a.kind (a ∷ more) (is_always_for handlers (at + b + r + l) rest) may (Uncaught a.kind (at + b + r + l) c_l) Un (at + b + r + l) (at + b + r + l + size handlers rest) at hi _ _ (omega arith) (omega arith)
    (λ p low high u. uncaught_behind a.kind (at + b + r) l c_a c_l p (caught_length handlers false always) (behind_rescue p u))
    (λ p q m. or_right ((is_within at (b + r) p && is_within (at + b + r) l q) || is_always_for handlers at body p q || is_always_for handlers (at + b) rescue p q || is_always_for handlers (at + b + r) always p q) _ m)
    (walk_fits a more handlers (at + b + r + l) rest v e))
  where
    b : ℕ
    b = size handlers body

    r : ℕ
    r = size handlers rescue

    l : ℕ
    l = size handlers always

    hi : ℕ
    hi = at + size handlers (Block body rescue always rest)

    c_r : List Bool
    c_r = caught_in handlers false rescue

    c_a : List Bool
    c_a = caught_in handlers false always

    c_l : List Bool
    c_l = caught_in handlers false rest

    may : ℕ → ℕ → Bool
    may = is_always_for handlers at (Block body rescue always rest)

    Un : ℕ → Type 0
    Un = Uncaught a.kind at (caught_in handlers false (Block body rescue always rest))

    nested : (p : ℕ) → Un p → Uncaught a.kind at (caught_in handlers (not (is_empty rescue)) body ++ (c_r ++ (c_a ++ c_l))) p
    nested p u = subst (λ (caught : List Bool). Uncaught a.kind at caught p) (append_assoc (caught_in handlers (not (is_empty rescue)) body ++ c_r) c_a c_l ∙ append_assoc (caught_in handlers (not (is_empty rescue)) body) c_r (c_a ++ c_l)) u

    behind_body : (p : ℕ) → Un p → Uncaught a.kind (at + b) (c_r ++ (c_a ++ c_l)) p
    behind_body p u = uncaught_behind a.kind at b (caught_in handlers (not (is_empty rescue)) body) (c_r ++ (c_a ++ c_l)) p (caught_length handlers (not (is_empty rescue)) body) (nested p u)

    behind_rescue : (p : ℕ) → Un p → Uncaught a.kind (at + b + r) (c_a ++ c_l) p
    behind_rescue p u = uncaught_behind a.kind (at + b) r c_r (c_a ++ c_l) p (caught_length handlers false rescue) (behind_body p u)
walk_fits a more handlers at (Flush rest) w e =
    on_good_fits a.kind (a ∷ more) (is_always_for handlers at (Flush rest)) (Uncaught a.kind at (caught_in handlers false (Flush rest))) at (at + size handlers (Flush rest)) _ _ (λ v. walk handlers (at + handlers) rest v)
    (flush_fits a more (is_always_for handlers at (Flush rest)) (Uncaught a.kind at (caught_in handlers false (Flush rest))) at (at + size handlers (Flush rest)) at 0 handlers w e (omega arith) (omega arith))
    (λ v. wider a.kind (a ∷ more) (is_always_for handlers (at + handlers) rest) (is_always_for handlers at (Flush rest)) (Uncaught a.kind (at + handlers) (caught_in handlers false rest)) (Uncaught a.kind at (caught_in handlers false (Flush rest)))
    (at + handlers) (at + handlers + size handlers rest) at (at + size handlers (Flush rest)) (walk handlers (at + handlers) rest v) (walk handlers (at + handlers) rest (longer (a ∷ more) v)) (omega arith) (omega arith)
    (λ p low high u. uncaught_behind a.kind at handlers (replicate handlers false) (caught_in handlers false rest) p (length-replicate handlers false) u) (λ p q m. m) (walk_fits a more handlers (at + handlers) rest v e))

-- ---- the last Flush
always_front : (handlers at : ℕ) (nodes : Nodes) (p q : ℕ) → is_always_for handlers at (front nodes) p q ≡ is_always_for handlers at nodes p q
always_front handlers at Nothing p q = refl
always_front handlers at (Task rest) p q = always_front handlers (at + 1) rest p q
always_front handlers at (Block body rescue always rest) p q =
    ap (λ (so : Bool). ((is_within at (size handlers body + size handlers rescue) p && is_within (at + size handlers body + size handlers rescue) (size handlers always) q) || is_always_for handlers at body p q
    || is_always_for handlers (at + size handlers body) rescue p q || is_always_for handlers (at + size handlers body + size handlers rescue) always p q) || so)
    (always_front handlers (at + size handlers body + size handlers rescue + size handlers always) rest p q)
always_front handlers at (Flush Nothing) p q = refl
always_front handlers at (Flush (Task rest)) p q = always_front handlers (at + handlers) (Task rest) p q
always_front handlers at (Flush (Block body rescue always rest)) p q = always_front handlers (at + handlers) (Block body rescue always rest) p q
always_front handlers at (Flush (Flush rest)) p q = always_front handlers (at + handlers) (Flush rest) p q

caught_front : (handlers : ℕ) (nodes : Nodes) → ends_in_flush nodes ≡ true → caught_in handlers false nodes ≡ caught_in handlers false (front nodes) ++ replicate handlers false
caught_front handlers Nothing e = cc
caught_front handlers (Task rest) e = ap (λ (xs : List Bool). false ∷ xs) (caught_front handlers rest e)
caught_front handlers (Block body rescue always rest) e =
    ap (λ (xs : List Bool). caught_in handlers (not (is_empty rescue)) body ++ caught_in handlers false rescue ++ caught_in handlers false always ++ xs) (caught_front handlers rest e)
    ∙ sym (append_assoc (caught_in handlers (not (is_empty rescue)) body ++ caught_in handlers false rescue ++ caught_in handlers false always) (caught_in handlers false (front rest)) (replicate handlers false))
caught_front handlers (Flush Nothing) e = append-nil (replicate handlers false)
caught_front handlers (Flush (Task rest)) e =
    ap (λ (xs : List Bool). replicate handlers false ++ xs) (caught_front handlers (Task rest) e) ∙ sym (append_assoc (replicate handlers false) (caught_in handlers false (front (Task rest))) (replicate handlers false))
caught_front handlers (Flush (Block body rescue always rest)) e =
    ap (λ (xs : List Bool). replicate handlers false ++ xs) (caught_front handlers (Block body rescue always rest) e)
    ∙ sym (append_assoc (replicate handlers false) (caught_in handlers false (front (Block body rescue always rest))) (replicate handlers false))
caught_front handlers (Flush (Flush rest)) e =
    ap (λ (xs : List Bool). replicate handlers false ++ xs) (caught_front handlers (Flush rest) e) ∙ sym (append_assoc (replicate handlers false) (caught_in handlers false (front (Flush rest))) (replicate handlers false))

-- ---- the whole walk of a play
abbrev pub is_good : Kind → Bool
is_good kinds.Good = true
is_good kind = false

outs_not_good : (kind k : Kind) → outs kind k ≡ true → is_good k ≡ false
outs_not_good kind kinds.Good e = absurd (outs_good kind e)
outs_not_good kind kinds.Bad e = refl
outs_not_good kind kinds.Halted e = refl
outs_not_good kind kinds.Gone e = refl
outs_not_good kind kinds.Ended e = refl

abbrev pub Follows : Kind → TreeOf → ℕ → Passage → Type 0
Follows kind tree p (Stopped q marks) = (is_over kind ≡ false) × ((is_always_for tree.handlers 0 tree.nodes p q || is_forced tree q) ≡ true)
Follows kind tree p (Through k w) = is_good k ≡ false

-- where a walk stopped whose next answer is of this kind, it goes on only where it may, and doesn't come through good
abbrev pub Leaves : Kind → TreeOf → Passage → Passage → Type 0
Leaves kind tree (Stopped p marks) q = (is_bad kind ≡ true → slice_index_or (caught_places tree) p false ≡ false) → Follows kind tree p q
Leaves kind tree (Through k w) q = place_of (reach_of q) ≡ None

pub through_none : (k : Kind) (w : WalkerOf) → place_of (reach_of (Through k w)) ≡ None
through_none kinds.Good w = refl
through_none kinds.Bad w = refl
through_none kinds.Halted w = refl
through_none kinds.Gone w = refl
through_none kinds.Ended w = refl

uncaught_at : (kind : Kind) (caught : List Bool) (p : ℕ) → (is_bad kind ≡ true → slice_index_or caught p false ≡ false) → Uncaught kind 0 caught p
unfolding Uncaught
uncaught_at kind caught p u = λ bad k same. ap (λ (j : ℕ). slice_index_or caught j false) (let at : k ≡ p = omega (arith, same) in at) ∙ u bad

plain_follows : (kind : Kind) (tree : TreeOf) (p hi : ℕ) (q : Passage) → Goes kind (is_always_for tree.handlers 0 tree.nodes p) 0 hi q → Follows kind tree p q
plain_follows kind tree p hi (Stopped q marks) g = (g.0, or_left (is_always_for tree.handlers 0 tree.nodes p q) (is_forced tree q) g.1)
plain_follows kind tree p hi (Through k w) g = outs_not_good kind k g

plain_leaves : (kind : Kind) (more : List AnswerOf) (tree : TreeOf) (p q : Passage)
    → Fits kind more (is_always_for tree.handlers 0 tree.nodes) (Uncaught kind 0 (caught_places tree)) 0 (0 + size tree.handlers tree.nodes) p q → Leaves kind tree p q
plain_leaves kind more tree (Stopped p marks) q f = λ u. plain_follows kind tree p (0 + size tree.handlers tree.nodes) q (f.2 (uncaught_at kind (caught_places tree) p u))
plain_leaves kind more tree (Through k w) q f = ap (λ (passage : Passage). place_of (reach_of passage)) f ∙ through_none k (longer more w)

-- the handlers that are forced
abbrev to_last : Passage → (WalkerOf → Passage) → Passage
to_last p last = on_good (with_forced p (λ kind v. stays_unless_gone kind (last v))) last

forced_place : (tree : TreeOf) (q : ℕ) → (tree.force_handlers && ends_in_flush tree.nodes) ≡ true → size tree.handlers (front tree.nodes) ≤ q → is_forced tree q ≡ true
forced_place tree q e l = both (tree.force_handlers && ends_in_flush tree.nodes) (nat_le (size tree.handlers (front tree.nodes)) q) e (le-leb (size tree.handlers (front tree.nodes)) q l)

-- a kind that isn't good stays, unless a handler there is gone
on_good_not : (k : Kind) (w : WalkerOf) (next : WalkerOf → Passage) → is_good k ≡ false → on_good (Through k w) next ≡ Through k w
on_good_not kinds.Good w next n = absurd (let no : true ≡ false = n in cc)
on_good_not kinds.Bad w next n = refl
on_good_not kinds.Halted w next n = refl
on_good_not kinds.Gone w next n = refl
on_good_not kinds.Ended w next n = refl

stays_through : (k j : Kind) (w : WalkerOf) (next : WalkerOf → Passage) → is_good k ≡ false → (i : Kind) × (on_good (stays_unless_gone k (Through j w)) next ≡ Through i w) × (is_good i ≡ false)
stays_through k kinds.Good w next n = (k, on_good_not k w next n, n)
stays_through k kinds.Bad w next n = (k, on_good_not k w next n, n)
stays_through k kinds.Halted w next n = (k, on_good_not k w next n, n)
stays_through k kinds.Gone w next n = (kinds.Gone, refl, refl)
stays_through k kinds.Ended w next n = (k, on_good_not k w next n, n)

abbrev IfStopped : Kind → TreeOf → ℕ → Passage → Type 0
IfStopped kind tree p (Stopped q marks) = Follows kind tree p (Stopped q marks)
IfStopped kind tree p (Through k w) = Unit {0}

stayed_follows : (kind : Kind) (tree : TreeOf) (p : ℕ) (k : Kind) (q : Passage) (last : WalkerOf → Passage) → is_good k ≡ false → IfStopped kind tree p q → Follows kind tree p (on_good (stays_unless_gone k q) last)
stayed_follows kind tree p k (Stopped q marks) last n f = f
stayed_follows kind tree p k (Through j w) last n f = let stays = stays_through k j w last n in subst (Follows kind tree p) (sym stays.1) stays.2

not_over : (kind : Kind) → (outs kind kinds.Bad ≡ true) ⊎ (outs kind kinds.Halted ≡ true) → is_over kind ≡ false
not_over kinds.Good e = refl
not_over kinds.Bad e = refl
not_over kinds.Halted e = refl
not_over kinds.Gone (inl e) = cc
not_over kinds.Gone (inr e) = cc
not_over kinds.Ended (inl e) = cc
not_over kinds.Ended (inr e) = cc

known_follows : (kind : Kind) (tree : TreeOf) (p hi : ℕ) (q : Passage) → (tree.force_handlers && ends_in_flush tree.nodes) ≡ true → is_over kind ≡ false → IsKnown (size tree.handlers (front tree.nodes)) hi q → IfStopped kind tree p q
unfolding IsKnown
known_follows kind tree p hi (Stopped q marks) e o b = (o, or_right (is_always_for tree.handlers 0 tree.nodes p q) (is_forced tree q) (forced_place tree q e b.0))
known_follows kind tree p hi (Through k w) e o b = tt

-- an answer before the last Flush
front_follows : (kind : Kind) (tree : TreeOf) (p hi top : ℕ) (q : Passage) (last : WalkerOf → Passage) → (tree.force_handlers && ends_in_flush tree.nodes) ≡ true → ((w : WalkerOf) → IsKnown (size tree.handlers (front tree.nodes)) top (last w))
    → Goes kind (is_always_for tree.handlers 0 (front tree.nodes) p) 0 hi q → Follows kind tree p (to_last q last)
front_follows kind tree p hi top (Stopped q marks) last e b g =
    (g.0, or_left (is_always_for tree.handlers 0 tree.nodes p q) (is_forced tree q) (sym (always_front tree.handlers 0 tree.nodes p q) ∙ g.1))
front_follows kind tree p hi top (Through kinds.Good w) last e b g = absurd (outs_good kind g)
front_follows kind tree p hi top (Through kinds.Bad w) last e b g = stayed_follows kind tree p kinds.Bad (last w) last refl (known_follows kind tree p top (last w) e (not_over kind (inl g)) (b w))
front_follows kind tree p hi top (Through kinds.Halted w) last e b g = stayed_follows kind tree p kinds.Halted (last w) last refl (known_follows kind tree p top (last w) e (not_over kind (inr g)) (b w))
front_follows kind tree p hi top (Through kinds.Gone w) last e b g = refl
front_follows kind tree p hi top (Through kinds.Ended w) last e b g = refl

-- one in it
abbrev Last : Kind → List AnswerOf → TreeOf → Passage → Passage → Type 0
Last kind more tree p q = Fits kind more (λ k j. true) (λ k. Unit {0}) (size tree.handlers (front tree.nodes)) (size tree.handlers (front tree.nodes) + tree.handlers) p q

last_goes : (kind : Kind) (tree : TreeOf) (p hi : ℕ) (q : Passage) → (tree.force_handlers && ends_in_flush tree.nodes) ≡ true → Goes kind (λ j. true) (size tree.handlers (front tree.nodes)) hi q → Follows kind tree p q
last_goes kind tree p hi (Stopped q marks) e g = (g.0, or_right (is_always_for tree.handlers 0 tree.nodes p q) (is_forced tree q) (forced_place tree q e g.2))
last_goes kind tree p hi (Through k w) e g = outs_not_good kind k g

if_stopped : (kind : Kind) (tree : TreeOf) (p : ℕ) (q : Passage) → Follows kind tree p q → IfStopped kind tree p q
if_stopped kind tree p (Stopped q marks) f = f
if_stopped kind tree p (Through k w) f = tt

last_leaves : (kind : Kind) (more : List AnswerOf) (tree : TreeOf) (p q : Passage) → (tree.force_handlers && ends_in_flush tree.nodes) ≡ true → Last kind more tree p q → Leaves kind tree p q
last_leaves kind more tree (Stopped p marks) q e f = λ u. last_goes kind tree p (size tree.handlers (front tree.nodes) + tree.handlers) q e (f.2 tt)
last_leaves kind more tree (Through k w) q e f = ap (λ (passage : Passage). place_of (reach_of passage)) f ∙ through_none k (longer more w)

stayed_leaves : (kind : Kind) (more : List AnswerOf) (tree : TreeOf) (k : Kind) (p q : Passage) (last : WalkerOf → Passage) → (tree.force_handlers && ends_in_flush tree.nodes) ≡ true → is_good k ≡ false → Last kind more tree p q
    → Leaves kind tree (on_good (stays_unless_gone k p) last) (on_good (stays_unless_gone k q) last)
stayed_leaves kind more tree k (Stopped p marks) q last e n f =
    λ u. stayed_follows kind tree p k q last n (if_stopped kind tree p q (last_goes kind tree p (size tree.handlers (front tree.nodes) + tree.handlers) q e (f.2 tt)))
stayed_leaves kind more tree k (Through j w) q last e n f =
    let one = stays_through k j w last n in
    let two = stays_through k j (longer more w) last n in
    subst (λ (passage : Passage). Leaves kind tree passage (on_good (stays_unless_gone k q) last)) (sym one.1)
    (ap (λ (passage : Passage). place_of (reach_of (on_good (stays_unless_gone k passage) last))) f ∙ ap (λ (passage : Passage). place_of (reach_of passage)) two.1 ∙ through_none two.0 (longer more w))

forced_leaves : (kind : Kind) (more : List AnswerOf) (tree : TreeOf) (p q : Passage) (last : WalkerOf → Passage) → (tree.force_handlers && ends_in_flush tree.nodes) ≡ true
    → ((w : WalkerOf) → Last kind more tree (last w) (last (longer more w)))
    → Fits kind more (is_always_for tree.handlers 0 (front tree.nodes)) (Uncaught kind 0 (caught_in tree.handlers false (front tree.nodes))) 0 (0 + size tree.handlers (front tree.nodes)) p q
    → Leaves kind tree (to_last p last) (to_last q last)
forced_leaves kind more tree (Stopped p marks) q last e n f =
    λ u. front_follows kind tree p (0 + size tree.handlers (front tree.nodes)) (size tree.handlers (front tree.nodes) + tree.handlers) q last e
    (λ w. known kind more (λ k j. true) (λ k. Unit {0}) (size tree.handlers (front tree.nodes)) (size tree.handlers (front tree.nodes) + tree.handlers) (last w) (last (longer more w)) (n w))
    (f.2
    (uncaught_front kind 0 (size tree.handlers (front tree.nodes)) (caught_in tree.handlers false (front tree.nodes)) (replicate tree.handlers false) p (caught_length tree.handlers false (front tree.nodes)) f.1
    (subst (λ (caught : List Bool). Uncaught kind 0 caught p) (caught_front tree.handlers tree.nodes (and_second tree.force_handlers (ends_in_flush tree.nodes) e)) (uncaught_at kind (caught_places tree) p u))))
forced_leaves kind more tree (Through kinds.Good w) q last e n f = rw f (last_leaves kind more tree (last w) (last (longer more w)) e (n w))
forced_leaves kind more tree (Through kinds.Bad w) q last e n f = rw f (stayed_leaves kind more tree kinds.Bad (last w) (last (longer more w)) last e refl (n w))
forced_leaves kind more tree (Through kinds.Halted w) q last e n f = rw f (stayed_leaves kind more tree kinds.Halted (last w) (last (longer more w)) last e refl (n w))
forced_leaves kind more tree (Through kinds.Gone w) q last e n f = rw f refl
forced_leaves kind more tree (Through kinds.Ended w) q last e n f = rw f refl

-- both
abbrev whole : TreeOf → Bool → WalkerOf → Passage
whole tree b w = if b then forced tree.handlers (front tree.nodes) w else walk tree.handlers 0 tree.nodes w

whole_leaves : (a : AnswerOf) (more : List AnswerOf) (tree : TreeOf) (b : Bool) (w : WalkerOf) → outs a.kind a.kind ≡ true → (tree.force_handlers && ends_in_flush tree.nodes) ≡ b
    → Leaves a.kind tree (whole tree b w) (whole tree b (longer (a ∷ more) w))
whole_leaves a more tree false w e f =
    plain_leaves a.kind (a ∷ more) tree (walk tree.handlers 0 tree.nodes w) (walk tree.handlers 0 tree.nodes (longer (a ∷ more) w)) (walk_fits a more tree.handlers 0 tree.nodes w e)
whole_leaves a more tree true w e f =
    forced_leaves a.kind (a ∷ more) tree (walk tree.handlers 0 (front tree.nodes) w) (walk tree.handlers 0 (front tree.nodes) (longer (a ∷ more) w)) (λ v. flush (size tree.handlers (front tree.nodes)) 0 tree.handlers v) f
    (λ v. flush_fits a more (λ k j. true) (λ k. Unit {0}) (size tree.handlers (front tree.nodes)) (size tree.handlers (front tree.nodes) + tree.handlers) (size tree.handlers (front tree.nodes)) 0 tree.handlers v e (omega arith) (omega arith))
    (walk_fits a more tree.handlers 0 (front tree.nodes) w e)

-- ---- the answers that count
without_split : (xs : List AnswerOf) (a : AnswerOf) (more : List AnswerOf) → is_halted a.kind ≡ false → without_halted (xs ++ a ∷ more) ≡ without_halted xs ++ a ∷ without_halted more
without_split [] a more e = rw e refl
without_split (b ∷ xs) a more e = by_halted (is_halted b.kind) (without_split xs a more e)
  where
    by_halted : (h : Bool) → without_halted (xs ++ a ∷ more) ≡ without_halted xs ++ a ∷ without_halted more
        → (if h then without_halted (xs ++ a ∷ more) else b ∷ without_halted (xs ++ a ∷ more)) ≡ (if h then without_halted xs else b ∷ without_halted xs) ++ a ∷ without_halted more
    by_halted true i = i
    by_halted false i = ap (λ (ys : List AnswerOf). b ∷ ys) i

not_true : (b : Bool) → not b ≡ true → b ≡ false
not_true true e = cc
not_true false e = refl

one_split : (xs : List AnswerOf) (a : AnswerOf) (more : List AnswerOf) → counts xs a ≡ true → (rest : List AnswerOf) × (one_halted (xs ++ a ∷ more) ≡ one_halted xs ++ a ∷ rest)
one_split [] a more c = by_halted (is_halted a.kind)
  where
    by_halted : (h : Bool) → (rest : List AnswerOf) × ((if h then a ∷ without_halted more else a ∷ one_halted more) ≡ a ∷ rest)
    by_halted true = (without_halted more, refl)
    by_halted false = (one_halted more, refl)
one_split (b ∷ xs) a more c = by_halted (is_halted b.kind) c (one_split xs a more)
  where
    by_halted : (h : Bool) → not ((h || list_any (λ (x : AnswerOf). is_halted x.kind) xs) && is_halted a.kind) ≡ true
        → (counts xs a ≡ true → (rest : List AnswerOf) × (one_halted (xs ++ a ∷ more) ≡ one_halted xs ++ a ∷ rest))
        → (rest : List AnswerOf) × ((if h then b ∷ without_halted (xs ++ a ∷ more) else b ∷ one_halted (xs ++ a ∷ more)) ≡ (if h then b ∷ without_halted xs else b ∷ one_halted xs) ++ a ∷ rest)
    by_halted true n i = (without_halted more, ap (λ (ys : List AnswerOf). b ∷ ys) (without_split xs a more (not_true (is_halted a.kind) n)))
    by_halted false n i = let split = i n in (split.0, ap (λ (ys : List AnswerOf). b ∷ ys) split.1)

-- behind an answer that isn't good a host leaves
pub leaves : (tree : TreeOf) (xs : List AnswerOf) (a : AnswerOf) (more : List AnswerOf) → counts xs a ≡ true → outs a.kind a.kind ≡ true → Leaves a.kind tree (passage tree xs) (passage tree (xs ++ a ∷ more))
leaves tree xs a more c e =
    let split = one_split xs a more c in
    subst (λ (ys : List AnswerOf). Leaves a.kind tree (passage tree xs) (whole tree (tree.force_handlers && ends_in_flush tree.nodes) (record { answers = ys; marks = replicate tree.handlers false }))) (sym split.1)
    (whole_leaves a split.0 tree (tree.force_handlers && ends_in_flush tree.nodes) (walker_of tree.handlers xs) e refl)
