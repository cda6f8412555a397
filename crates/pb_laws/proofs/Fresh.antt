-- A host that has answered nothing yet is active, and so is one that stands at a place, unless handlers are forced on it.
use Rattle.std.proofs.Common.{◌≡◌, ◌⊎◌, ℕ, zero, suc, ◌+◌, Bool, true, false, ◌&&◌, List, [], ◌∷◌, refl, sym, ◌∙◌, ap, inl, inr}
use Rattle.std.specs.Prelude.{Option, Some, None, if◌then◌else◌, slice_index_or}
use Rattle.std.specs.List.{list_any}
use Rattle.pb_tree.specs.Answer.{AnswerOf}
use Rattle.pb_tree.specs.declared.answer.Kind.{Kind}
use Rattle.pb_tree.specs.declared.answer.Kind.TheVariants as kinds
use Rattle.pb_tree.specs.declared.tree.Status.{Status}
use Rattle.pb_tree.specs.declared.tree.Status.TheVariants as status
use Rattle.pb_tree.specs.Tree.{Nodes, Nothing, Task, Block, Flush, TreeOf, size}
use Rattle.pb_tree.specs.Walk.{WalkerOf, Passage, Stopped, Through, on_good, unless_over, block_result, task_with, handler_at, handler_with, flush, is_empty, rescued, walk, ends_in_flush, front, with_forced, stays_unless_gone, forced, is_halted, walker_of, passage, reach_of, reach, status_in, status_of, unforced, unless_active, status_now}
use Rattle.pb_host.specs.Host.{place_of}

-- a walk without answers stops somewhere, or comes through good
abbrev IsFresh : Passage → Type 0
IsFresh (Stopped place marks) = Unit {0}
IsFresh (Through kinds.Good w) = w.answers ≡ []
IsFresh (Through kinds.Bad w) = ⊥
IsFresh (Through kinds.Halted w) = ⊥
IsFresh (Through kinds.Gone w) = ⊥
IsFresh (Through kinds.Ended w) = ⊥

abbrev Stays : (WalkerOf → Passage) → Type 0
Stays next = (w : WalkerOf) → w.answers ≡ [] → IsFresh (next w)

fresh_on : (p : Passage) (next : WalkerOf → Passage) → IsFresh p → Stays next → IsFresh (on_good p next)
fresh_on (Stopped place marks) next fresh stays = tt
fresh_on (Through kinds.Good w) next fresh stays = stays w fresh
fresh_on (Through kinds.Bad w) next fresh stays = absurd fresh
fresh_on (Through kinds.Halted w) next fresh stays = absurd fresh
fresh_on (Through kinds.Gone w) next fresh stays = absurd fresh
fresh_on (Through kinds.Ended w) next fresh stays = absurd fresh

fresh_over : (p : Passage) (next : Kind → WalkerOf → Passage) → IsFresh p → Stays (next kinds.Good) → IsFresh (unless_over p next)
fresh_over (Stopped place marks) next fresh stays = tt
fresh_over (Through kinds.Good w) next fresh stays = stays w fresh
fresh_over (Through kinds.Bad w) next fresh stays = absurd fresh
fresh_over (Through kinds.Halted w) next fresh stays = absurd fresh
fresh_over (Through kinds.Gone w) next fresh stays = absurd fresh
fresh_over (Through kinds.Ended w) next fresh stays = absurd fresh

fresh_task : (place : ℕ) (answers : List AnswerOf) (marks : List Bool) → answers ≡ [] → IsFresh (task_with place answers marks)
fresh_task place [] marks e = tt
fresh_task place (a ∷ answers) marks e = cc

fresh_handler : (place handler : ℕ) (w : WalkerOf) → w.answers ≡ [] → IsFresh (handler_at place handler w)
fresh_handler place handler w e = by_mark (slice_index_or w.marks handler false)
  where
    ran : (answers : List AnswerOf) → answers ≡ [] → IsFresh (handler_with place handler answers w.marks)
    ran [] f = tt
    ran (a ∷ answers) f = cc

    by_mark : (b : Bool) → IsFresh (if b then handler_with place handler w.answers w.marks else Through kinds.Good w)
    by_mark true = ran w.answers e
    by_mark false = e

fresh_flush : (at h left : ℕ) (w : WalkerOf) → w.answers ≡ [] → IsFresh (flush at h left w)
fresh_flush at h zero w e = e
fresh_flush at h (suc left) w e = fresh_on (handler_at (at + h) h w) (λ v. flush at (h + 1) left v) (fresh_handler (at + h) h w e) (λ v f. fresh_flush at (h + 1) left v f)

fresh_rescued : (none : Bool) (w : WalkerOf) (rescue : WalkerOf → Passage) → w.answers ≡ [] → IsFresh (rescued none kinds.Good w rescue)
fresh_rescued true w rescue e = e
fresh_rescued false w rescue e = e

fresh_walk : (handlers at : ℕ) (nodes : Nodes) (w : WalkerOf) → w.answers ≡ [] → IsFresh (walk handlers at nodes w)
fresh_walk handlers at Nothing w e = e
fresh_walk handlers at (Task rest) w e = fresh_on (task_with at w.answers w.marks) (λ v. walk handlers (at + 1) rest v) (fresh_task at w.answers w.marks e) (λ v f. fresh_walk handlers (at + 1) rest v f)
fresh_walk handlers at (Block body rescue always rest) w e =
    fresh_on
    (unless_over
    (unless_over (walk handlers at body w)
    (λ kind v. rescued (is_empty rescue) kind v (λ u. walk handlers (at + size handlers body) rescue u)))
    (λ kind v.
    unless_over (walk handlers (at + size handlers body + size handlers rescue) always v)
    (λ always_kind u. Through (block_result kind always_kind) u)))
    (λ v. walk handlers (at + size handlers body + size handlers rescue + size handlers always) rest v)
    (fresh_over
    (unless_over (walk handlers at body w)
    (λ kind v. rescued (is_empty rescue) kind v (λ u. walk handlers (at + size handlers body) rescue u)))
    (λ kind v.
    unless_over (walk handlers (at + size handlers body + size handlers rescue) always v)
    (λ always_kind u. Through (block_result kind always_kind) u))
    (fresh_over (walk handlers at body w)
    (λ kind v. rescued (is_empty rescue) kind v (λ u. walk handlers (at + size handlers body) rescue u))
    (fresh_walk handlers at body w e)
    (λ v f. fresh_rescued (is_empty rescue) v (λ u. walk handlers (at + size handlers body) rescue u) f))
    (λ v f.
    fresh_over (walk handlers (at + size handlers body + size handlers rescue) always v) (λ always_kind u. Through (block_result kinds.Good always_kind) u)
    (fresh_walk handlers (at + size handlers body + size handlers rescue) always v f) (λ u g. g)))
    (λ v f. fresh_walk handlers (at + size handlers body + size handlers rescue + size handlers always) rest v f)
fresh_walk handlers at (Flush rest) w e = fresh_on (flush at 0 handlers w) (λ v. walk handlers (at + handlers) rest v) (fresh_flush at 0 handlers w e) (λ v f. fresh_walk handlers (at + handlers) rest v f)

fresh_forced : (p : Passage) (last : Kind → WalkerOf → Passage) → IsFresh p → IsFresh (with_forced p last)
fresh_forced (Stopped place marks) last fresh = tt
fresh_forced (Through kinds.Good w) last fresh = fresh
fresh_forced (Through kinds.Bad w) last fresh = absurd fresh
fresh_forced (Through kinds.Halted w) last fresh = absurd fresh
fresh_forced (Through kinds.Gone w) last fresh = absurd fresh
fresh_forced (Through kinds.Ended w) last fresh = absurd fresh

fresh_passage : (tree : TreeOf) → IsFresh (passage tree [])
fresh_passage tree = by_force (tree.force_handlers && ends_in_flush tree.nodes)
  where
    first : WalkerOf
    first = walker_of tree.handlers []

    by_force : (b : Bool) → IsFresh (if b then forced tree.handlers (front tree.nodes) first else walk tree.handlers 0 tree.nodes first)
    by_force true =
        fresh_on
        (with_forced (walk tree.handlers 0 (front tree.nodes) first) (λ kind v. stays_unless_gone kind (flush (size tree.handlers (front tree.nodes)) 0 tree.handlers v)))
        (λ v. flush (size tree.handlers (front tree.nodes)) 0 tree.handlers v)
        (fresh_forced (walk tree.handlers 0 (front tree.nodes) first) (λ kind v. stays_unless_gone kind (flush (size tree.handlers (front tree.nodes)) 0 tree.handlers v)) (fresh_walk tree.handlers 0 (front tree.nodes) first refl))
        (λ v f. fresh_flush (size tree.handlers (front tree.nodes)) 0 tree.handlers v f)
    by_force false = fresh_walk tree.handlers 0 tree.nodes first refl

fresh_status : (p : Passage) → IsFresh p → status_in false p ≡ status.Active
fresh_status (Stopped place marks) fresh = refl
fresh_status (Through kinds.Good w) fresh = refl
fresh_status (Through kinds.Bad w) fresh = absurd fresh
fresh_status (Through kinds.Halted w) fresh = absurd fresh
fresh_status (Through kinds.Gone w) fresh = absurd fresh
fresh_status (Through kinds.Ended w) fresh = absurd fresh

pub fresh_active : (tree : TreeOf) → status_now tree [] ≡ status.Active
fresh_active tree = rw (fresh_status (passage tree []) (fresh_passage tree)) (fresh_status (passage (unforced tree) []) (fresh_passage (unforced tree)))

-- ---- a host that stands at a place
some_stands : (had_halted : Bool) (p : Passage) (place : ℕ) → place_of (reach_of p) ≡ Some place → status_in had_halted p ≡ status.Active
some_stands b (Stopped at marks) place e = refl
some_stands b (Through kinds.Good w) place e = cc
some_stands b (Through kinds.Bad w) place e = cc
some_stands b (Through kinds.Halted w) place e = cc
some_stands b (Through kinds.Gone w) place e = cc
some_stands b (Through kinds.Ended w) place e = cc

abbrev halted_in : List AnswerOf → Bool
halted_in answers = list_any (λ (a : AnswerOf). is_halted a.kind) answers

-- where no handlers are forced, it makes no difference that they aren't
unforced_same : (tree : TreeOf) (answers : List AnswerOf) → tree.force_handlers ≡ false → passage tree answers ≡ passage (unforced tree) answers
unforced_same tree answers e =
    ap (λ (b : Bool). if b && ends_in_flush tree.nodes then forced tree.handlers (front tree.nodes) (walker_of tree.handlers answers) else walk tree.handlers 0 tree.nodes (walker_of tree.handlers answers)) e

pub stands_active : (tree : TreeOf) (answers : List AnswerOf) (place : ℕ) → place_of (reach tree answers) ≡ Some place
    → (status_now tree answers ≡ status.Active) ⊎ ((tree.force_handlers ≡ true) × (place_of (reach (unforced tree) answers) ≡ None))
stands_active tree answers place e = by_place (place_of (reach (unforced tree) answers)) refl
  where
    active : status_of tree answers ≡ status.Active
    active = some_stands (halted_in answers) (passage tree answers) place e

    by_force : (b : Bool) → tree.force_handlers ≡ b → place_of (reach (unforced tree) answers) ≡ None
        → (status_now tree answers ≡ status.Active) ⊎ ((tree.force_handlers ≡ true) × (place_of (reach (unforced tree) answers) ≡ None))
    by_force true f none = inr (f, none)
    by_force false f none = absurd (let both_ways : Some place ≡ None = sym e ∙ ap (λ (p : Passage). place_of (reach_of p)) (unforced_same tree answers f) ∙ none in cc)

    by_place : (next : Option ℕ) → place_of (reach (unforced tree) answers) ≡ next → (status_now tree answers ≡ status.Active) ⊎ ((tree.force_handlers ≡ true) × (place_of (reach (unforced tree) answers) ≡ None))
    by_place None is = by_force tree.force_handlers refl is
    by_place (Some q) is = inl (ap (λ (st : Status). unless_active st (status_of (unforced tree) answers)) active ∙ some_stands (halted_in answers) (passage (unforced tree) answers) q is)
