-- A walk that ends its play early (`meta: end_host`) does so by its last answer: none of those before it was such a one.
use Rattle.std.proofs.Common.{◌≡◌, ℕ, zero, suc, ◌+◌, Bool, true, false, ◌&&◌, not, List, [], ◌∷◌, ◌++◌, refl, sym, ◌∙◌, ap, append_assoc}
use Rattle.std.specs.Prelude.{Option, Some, None, slice_index_or, if◌then◌else◌}
use Rattle.std.specs.List.{list_any}
use Rattle.std.proofs.lemmas.Bool.{or_parts, or_from}
use Rattle.pb_tree.specs.Answer.{AnswerOf}
use Rattle.pb_tree.specs.Laws.{counts}
use Rattle.pb_tree.specs.Tree.{Nodes, Nothing, Task, Block, Flush, TreeOf, size}
use Rattle.pb_tree.specs.Walk.{WalkerOf, Passage, Stopped, Through, on_good, unless_over, rescued, task_with, handler_with, flush, walk, is_empty, block_result, ends_in_flush, front, stays_unless_gone, with_forced, forced, is_halted, without_halted, one_halted, walker_of, passage, reach, reach_of}
use Rattle.pb_tree.specs.declared.answer.Kind.{Kind}
use Rattle.pb_tree.specs.declared.answer.Kind.TheVariants as kinds
use Rattle.pb_host.specs.Host.{place_of}
use Rattle.pb_laws.proofs.Stopping.{outs}
use Rattle.pb_laws.proofs.Leaving.{Leaves, leaves}

abbrev pub is_ended : Kind → Bool
is_ended kinds.Ended = true
is_ended kind = false

abbrev pub any_ended : List AnswerOf → Bool
any_ended answers = list_any (λ (a : AnswerOf). is_ended a.kind) answers

-- ---- a walk none of whose answers ends the play
abbrev GoesOn : Passage → Type 0
GoesOn (Stopped place marks) = Unit {0}
GoesOn (Through k w) = (is_ended k ≡ false) × (any_ended w.answers ≡ false)

on_good_on : (p : Passage) (next : WalkerOf → Passage) → GoesOn p → ((w : WalkerOf) → any_ended w.answers ≡ false → GoesOn (next w)) → GoesOn (on_good p next)
on_good_on (Stopped place marks) next g n = tt
on_good_on (Through kinds.Good w) next g n = n w g.1
on_good_on (Through kinds.Bad w) next g n = g
on_good_on (Through kinds.Halted w) next g n = g
on_good_on (Through kinds.Gone w) next g n = g
on_good_on (Through kinds.Ended w) next g n = g

unless_on : (p : Passage) (next : Kind → WalkerOf → Passage) → GoesOn p → ((k : Kind) (w : WalkerOf) → is_ended k ≡ false → any_ended w.answers ≡ false → GoesOn (next k w)) → GoesOn (unless_over p next)
unless_on (Stopped place marks) next g n = tt
unless_on (Through kinds.Good w) next g n = n kinds.Good w refl g.1
unless_on (Through kinds.Bad w) next g n = n kinds.Bad w refl g.1
unless_on (Through kinds.Halted w) next g n = n kinds.Halted w refl g.1
unless_on (Through kinds.Gone w) next g n = g
unless_on (Through kinds.Ended w) next g n = g

rescued_on : (no_rescue : Bool) (k : Kind) (w : WalkerOf) (rescue : WalkerOf → Passage) → is_ended k ≡ false → any_ended w.answers ≡ false → ((v : WalkerOf) → any_ended v.answers ≡ false → GoesOn (rescue v))
    → GoesOn (rescued no_rescue k w rescue)
rescued_on true k w rescue e f n = (e, f)
rescued_on false kinds.Good w rescue e f n = (e, f)
rescued_on false kinds.Bad w rescue e f n = n w f
rescued_on false kinds.Halted w rescue e f n = (e, f)
rescued_on false kinds.Gone w rescue e f n = (e, f)
rescued_on false kinds.Ended w rescue e f n = (e, f)

result_on : (result k : Kind) → is_ended result ≡ false → is_ended k ≡ false → is_ended (block_result result k) ≡ false
result_on result kinds.Good e f = e
result_on kinds.Good kinds.Bad e f = refl
result_on kinds.Bad kinds.Bad e f = refl
result_on kinds.Halted kinds.Bad e f = refl
result_on kinds.Gone kinds.Bad e f = refl
result_on kinds.Ended kinds.Bad e f = refl
result_on kinds.Good kinds.Halted e f = refl
result_on kinds.Bad kinds.Halted e f = refl
result_on kinds.Halted kinds.Halted e f = refl
result_on kinds.Gone kinds.Halted e f = refl
result_on kinds.Ended kinds.Halted e f = refl
result_on kinds.Good kinds.Gone e f = refl
result_on kinds.Bad kinds.Gone e f = refl
result_on kinds.Halted kinds.Gone e f = refl
result_on kinds.Gone kinds.Gone e f = refl
result_on kinds.Ended kinds.Gone e f = refl
result_on result kinds.Ended e f = absurd (let no : true ≡ false = f in cc)

task_on : (place : ℕ) (answers : List AnswerOf) (marks : List Bool) → any_ended answers ≡ false → GoesOn (task_with place answers marks)
task_on place [] marks e = tt
task_on place (a ∷ answers) marks e = or_parts (is_ended a.kind) (any_ended answers) e

handler_on : (place handler : ℕ) (answers : List AnswerOf) (marks : List Bool) → any_ended answers ≡ false → GoesOn (handler_with place handler answers marks)
handler_on place handler [] marks e = tt
handler_on place handler (a ∷ answers) marks e = or_parts (is_ended a.kind) (any_ended answers) e

marked_on : (marked : Bool) (place handler : ℕ) (w : WalkerOf) → any_ended w.answers ≡ false → GoesOn (if marked then handler_with place handler w.answers w.marks else Through kinds.Good w)
marked_on true place handler w e = handler_on place handler w.answers w.marks e
marked_on false place handler w e = (refl, e)

flush_on : (at h left : ℕ) (w : WalkerOf) → any_ended w.answers ≡ false → GoesOn (flush at h left w)
flush_on at h zero w e = (refl, e)
flush_on at h (suc left) w e = on_good_on _ (λ v. flush at (h + 1) left v) (marked_on (slice_index_or w.marks h false) (at + h) h w e) (λ v f. flush_on at (h + 1) left v f)

walk_on : (handlers at : ℕ) (nodes : Nodes) (w : WalkerOf) → any_ended w.answers ≡ false → GoesOn (walk handlers at nodes w)
walk_on handlers at Nothing w e = (refl, e)
walk_on handlers at (Task rest) w e = on_good_on _ (λ v. walk handlers (at + 1) rest v) (task_on at w.answers w.marks e) (λ v f. walk_on handlers (at + 1) rest v f)
walk_on handlers at (Block body rescue always rest) w e =
    on_good_on _ (λ v. walk handlers (at + size handlers body + size handlers rescue + size handlers always) rest v)
    (unless_on _ (λ kind v. unless_over (walk handlers (at + size handlers body + size handlers rescue) always v) (λ always_kind u. Through (block_result kind always_kind) u))
    (unless_on _ (λ kind v. rescued (is_empty rescue) kind v (λ u. walk handlers (at + size handlers body) rescue u)) (walk_on handlers at body w e)
    (λ k v f g. rescued_on (is_empty rescue) k v (λ u. walk handlers (at + size handlers body) rescue u) f g (λ u h. walk_on handlers (at + size handlers body) rescue u h)))
    (λ k v f g. unless_on _ (λ always_kind u. Through (block_result k always_kind) u) (walk_on handlers (at + size handlers body + size handlers rescue) always v g) (λ j u h i. (result_on k j f h, i))))
    (λ v f. walk_on handlers (at + size handlers body + size handlers rescue + size handlers always) rest v f)
walk_on handlers at (Flush rest) w e = on_good_on _ (λ v. walk handlers (at + handlers) rest v) (flush_on at 0 handlers w e) (λ v f. walk_on handlers (at + handlers) rest v f)

stays_on : (k : Kind) (p : Passage) → is_ended k ≡ false → GoesOn p → GoesOn (stays_unless_gone k p)
stays_on k (Stopped place marks) e g = tt
stays_on k (Through kinds.Good w) e g = (e, g.1)
stays_on k (Through kinds.Bad w) e g = (e, g.1)
stays_on k (Through kinds.Halted w) e g = (e, g.1)
stays_on k (Through kinds.Gone w) e g = g
stays_on k (Through kinds.Ended w) e g = (e, g.1)

with_forced_on : (p : Passage) (last : Kind → WalkerOf → Passage) → GoesOn p → ((k : Kind) (w : WalkerOf) → is_ended k ≡ false → any_ended w.answers ≡ false → GoesOn (last k w)) → GoesOn (with_forced p last)
with_forced_on (Stopped place marks) last g n = tt
with_forced_on (Through kinds.Good w) last g n = g
with_forced_on (Through kinds.Bad w) last g n = n kinds.Bad w refl g.1
with_forced_on (Through kinds.Halted w) last g n = n kinds.Halted w refl g.1
with_forced_on (Through kinds.Gone w) last g n = g
with_forced_on (Through kinds.Ended w) last g n = g

whole_on : (tree : TreeOf) (b : Bool) (w : WalkerOf) → any_ended w.answers ≡ false → GoesOn (if b then forced tree.handlers (front tree.nodes) w else walk tree.handlers 0 tree.nodes w)
whole_on tree false w e = walk_on tree.handlers 0 tree.nodes w e
whole_on tree true w e =
    on_good_on _ (λ v. flush (size tree.handlers (front tree.nodes)) 0 tree.handlers v)
    (with_forced_on _ (λ kind v. stays_unless_gone kind (flush (size tree.handlers (front tree.nodes)) 0 tree.handlers v)) (walk_on tree.handlers 0 (front tree.nodes) w e)
    (λ k v f g. stays_on k _ f (flush_on (size tree.handlers (front tree.nodes)) 0 tree.handlers v g)))
    (λ v f. flush_on (size tree.handlers (front tree.nodes)) 0 tree.handlers v f)

without_ended : (xs : List AnswerOf) → any_ended xs ≡ false → any_ended (without_halted xs) ≡ false
without_ended [] e = refl
without_ended (a ∷ xs) e = by_halted (is_halted a.kind) (without_ended xs (or_parts (is_ended a.kind) (any_ended xs) e).1)
  where
    parts : (is_ended a.kind ≡ false) × (any_ended xs ≡ false)
    parts = or_parts (is_ended a.kind) (any_ended xs) e

    by_halted : (h : Bool) → any_ended (without_halted xs) ≡ false → any_ended (if h then without_halted xs else a ∷ without_halted xs) ≡ false
    by_halted true i = i
    by_halted false i = or_from (is_ended a.kind) (any_ended (without_halted xs)) parts.0 i

one_ended : (xs : List AnswerOf) → any_ended xs ≡ false → any_ended (one_halted xs) ≡ false
one_ended [] e = refl
one_ended (a ∷ xs) e = by_halted (is_halted a.kind) (one_ended xs (or_parts (is_ended a.kind) (any_ended xs) e).1)
  where
    parts : (is_ended a.kind ≡ false) × (any_ended xs ≡ false)
    parts = or_parts (is_ended a.kind) (any_ended xs) e

    by_halted : (h : Bool) → any_ended (one_halted xs) ≡ false → any_ended (if h then a ∷ without_halted xs else a ∷ one_halted xs) ≡ false
    by_halted true i = or_from (is_ended a.kind) (any_ended (without_halted xs)) parts.0 (without_ended xs parts.1)
    by_halted false i = or_from (is_ended a.kind) (any_ended (one_halted xs)) parts.0 i

goes_on : (tree : TreeOf) (xs : List AnswerOf) → any_ended xs ≡ false → GoesOn (passage tree xs)
goes_on tree xs e = whole_on tree (tree.force_handlers && ends_in_flush tree.nodes) (walker_of tree.handlers xs) (one_ended xs e)

-- ---- how a walk ended
abbrev pub ends_as : Passage → Option Kind
ends_as (Stopped place marks) = None
ends_as (Through k w) = Some k

not_ended : (p : Passage) → GoesOn p → ends_as p ≡ Some kinds.Ended → ⊥
not_ended (Stopped place marks) g e = cc
not_ended (Through kinds.Good w) g e = cc
not_ended (Through kinds.Bad w) g e = cc
not_ended (Through kinds.Halted w) g e = cc
not_ended (Through kinds.Gone w) g e = cc
not_ended (Through kinds.Ended w) g e = absurd (let no : true ≡ false = g.0 in cc)

-- an answer that ends the play leaves none to come
counts_ended : (xs : List AnswerOf) (a : AnswerOf) → is_ended a.kind ≡ true → counts xs a ≡ true
counts_ended xs a e = by_kind a.kind e (list_any (λ (b : AnswerOf). is_halted b.kind) xs)
  where
    by_kind : (k : Kind) → is_ended k ≡ true → (halted : Bool) → not (halted && is_halted k) ≡ true
    by_kind kinds.Good f halted = cc
    by_kind kinds.Bad f halted = cc
    by_kind kinds.Halted f halted = cc
    by_kind kinds.Gone f halted = cc
    by_kind kinds.Ended f true = refl
    by_kind kinds.Ended f false = refl

ended_stays : (kind : Kind) (tree : TreeOf) (p q : Passage) (place : ℕ) → is_ended kind ≡ true → Leaves kind tree p q → place_of (reach_of q) ≡ Some place → ⊥
ended_stays kinds.Good tree p q place e l at = cc
ended_stays kinds.Bad tree p q place e l at = cc
ended_stays kinds.Halted tree p q place e l at = cc
ended_stays kinds.Gone tree p q place e l at = cc
ended_stays kinds.Ended tree (Stopped here marks) (Stopped there marks2) place e l at = let follows = l (λ bad. cc) in absurd (let no : true ≡ false = follows.0 in cc)
ended_stays kinds.Ended tree (Stopped here marks) (Through kinds.Good w) place e l at = cc
ended_stays kinds.Ended tree (Stopped here marks) (Through kinds.Bad w) place e l at = cc
ended_stays kinds.Ended tree (Stopped here marks) (Through kinds.Halted w) place e l at = cc
ended_stays kinds.Ended tree (Stopped here marks) (Through kinds.Gone w) place e l at = cc
ended_stays kinds.Ended tree (Stopped here marks) (Through kinds.Ended w) place e l at = cc
ended_stays kinds.Ended tree (Through k w) q place e l at = absurd (let no : None ≡ Some place = sym l ∙ at in cc)

outs_ended : (kind : Kind) → is_ended kind ≡ true → outs kind kind ≡ true
outs_ended kinds.Good e = cc
outs_ended kinds.Bad e = cc
outs_ended kinds.Halted e = cc
outs_ended kinds.Gone e = cc
outs_ended kinds.Ended e = refl

none_before : (tree : TreeOf) (had more : List AnswerOf) (place : ℕ) → place_of (reach tree (had ++ more)) ≡ Some place → any_ended more ≡ false
none_before tree had [] place at = refl
none_before tree had (a ∷ more) place at =
    or_from (is_ended a.kind) (any_ended more) (by_ended (is_ended a.kind) refl)
    (none_before tree (had ++ a ∷ []) more place (ap (λ (xs : List AnswerOf). place_of (reach tree xs)) (append_assoc had (a ∷ []) more) ∙ at))
  where
    by_ended : (b : Bool) → is_ended a.kind ≡ b → b ≡ false
    by_ended true e = absurd (ended_stays a.kind tree (passage tree had) (passage tree (had ++ a ∷ more)) place e (leaves tree had a more (counts_ended had a e) (outs_ended a.kind e)) at)
    by_ended false e = refl

any_more : (xs : List AnswerOf) (a : AnswerOf) → any_ended xs ≡ false → is_ended a.kind ≡ false → any_ended (xs ++ a ∷ []) ≡ false
any_more [] a e f = or_from (is_ended a.kind) false f refl
any_more (b ∷ xs) a e f = let parts = or_parts (is_ended b.kind) (any_ended xs) e in or_from (is_ended b.kind) (any_ended (xs ++ a ∷ [])) parts.0 (any_more xs a parts.1 f)

-- so where one answer more ends the play, it is that one
pub last_ends : (tree : TreeOf) (xs : List AnswerOf) (a : AnswerOf) (place : ℕ) → place_of (reach tree xs) ≡ Some place → ends_as (passage tree (xs ++ a ∷ [])) ≡ Some kinds.Ended → is_ended a.kind ≡ true
last_ends tree xs a place at e = by_ended (is_ended a.kind) refl
  where
    by_ended : (b : Bool) → is_ended a.kind ≡ b → b ≡ true
    by_ended true f = refl
    by_ended false f = absurd (not_ended (passage tree (xs ++ a ∷ [])) (goes_on tree (xs ++ a ∷ []) (any_more xs a (none_before tree [] xs place at) f)) e)
