-- What a host is at once: its course with forced handlers beside the one without.
use Rattle.std.proofs.Common.{◌≡◌, ◌⊎◌, inl, inr, ℕ, zero, suc, ◌+◌, Bool, true, false, ◌&&◌, ◌||◌, List, [], ◌∷◌, refl, sym, ap, ◌∙◌, subst, arith}
use Rattle.std.specs.Prelude.{Option, Some, None, if◌then◌else◌, replicate}
use Rattle.pb_tree.specs.declared.answer.Kind.{Kind}
use Rattle.pb_tree.specs.declared.answer.Kind.TheVariants as kinds
use Rattle.pb_tree.specs.declared.tree.Status.{Status}
use Rattle.pb_tree.specs.Answer.{AnswerOf}
use Rattle.pb_tree.specs.Tree.{Nodes, Nothing, Task, Block, Flush, TreeOf, size}
use Rattle.pb_tree.specs.Walk.{block_result, is_empty, noted, is_halted, ends_in_flush, front, unless_active, unforced, status_in, status_now}
use Rattle.pb_flat.specs.Course.{Course, Ends, Runs, chosen, flush_course, course, last_flush, plain_course, forced_course, whole_course, course_of, is_run, from_next_run, Stand, standing, after_kind, ran, answered, advanced, after, first_of, stand_of, passage_at, status_at, now_in, now_at}
use Rattle.pb_flat.specs.Seen.{PlanOf, CursorOf, StandsAfter, seen}
use Rattle.pb_flat.specs.Laws.{BadAreOutAtOnce}
use Rattle.pb_flat.proofs.Stands.{stands_are_walks}

-- ---- a course without what is forced
abbrev kept : Kind → ℕ → Option ℕ → Course → Course → Course → Course
kept kinds.Ended place handler good bad halted = Runs place handler kinds.Ended good bad halted
kept kinds.Good place handler good bad halted = Ends kinds.Good
kept kinds.Bad place handler good bad halted = Ends kinds.Bad
kept kinds.Halted place handler good bad halted = Ends kinds.Halted
kept kinds.Gone place handler good bad halted = Ends kinds.Gone

abbrev dropped : Course → Course
dropped (Ends kind) = Ends kind
dropped (Runs place handler over good bad halted) = kept over place handler (dropped good) (dropped bad) (dropped halted)

flush_drops : (at h n : ℕ) (good bad halted : Course) → dropped (flush_course at h n kinds.Ended good bad halted) ≡ flush_course at h n kinds.Ended (dropped good) (dropped bad) (dropped halted)
flush_drops at h zero good bad halted = refl
flush_drops at h (suc n) good bad halted = ap (λ c. Runs (at + h) (Some h) kinds.Ended c (dropped bad) (dropped halted)) (flush_drops at (h + 1) n good bad halted)

chosen_drops : (kind : Kind) (good bad halted : Course) → dropped (chosen kind good bad halted) ≡ chosen kind (dropped good) (dropped bad) (dropped halted)
chosen_drops kinds.Good good bad halted = refl
chosen_drops kinds.Bad good bad halted = refl
chosen_drops kinds.Halted good bad halted = refl
chosen_drops kinds.Gone good bad halted = refl
chosen_drops kinds.Ended good bad halted = refl

abbrev always_of : ℕ → ℕ → Nodes → Kind → Course → Course → Course → Course
always_of handlers at always kind behind bad halted =
    course handlers at always (chosen (block_result kind kinds.Good) behind bad halted) (chosen (block_result kind kinds.Bad) behind bad halted) (chosen (block_result kind kinds.Halted) behind bad halted)

abbrev rescue_of : Bool → Course → Course → Course
rescue_of none last rescue = if none then last else rescue

rescue_drops : (none : Bool) (last rescue : Course) → dropped (rescue_of none last rescue) ≡ rescue_of none (dropped last) (dropped rescue)
rescue_drops true last rescue = refl
rescue_drops false last rescue = refl

course_drops : (handlers at : ℕ) (nodes : Nodes) (good bad halted : Course) → dropped (course handlers at nodes good bad halted) ≡ course handlers at nodes (dropped good) (dropped bad) (dropped halted)
course_drops handlers at Nothing good bad halted = refl
course_drops handlers at (Task rest) good bad halted = ap (λ c. Runs at None kinds.Ended c (dropped bad) (dropped halted)) (course_drops handlers (at + 1) rest good bad halted)
course_drops handlers at (Block body rescue always rest) good bad halted =
    let behind = course handlers (at + size handlers body + size handlers rescue + size handlers always) rest good bad halted in
    let bare = course handlers (at + size handlers body + size handlers rescue + size handlers always) rest (dropped good) (dropped bad) (dropped halted) in
    let rests : dropped behind ≡ bare = course_drops handlers (at + size handlers body + size handlers rescue + size handlers always) rest good bad halted in
    let there = at + size handlers body + size handlers rescue in
    let last : (kind : Kind) → dropped (always_of handlers there always kind behind bad halted) ≡ always_of handlers there always kind bare (dropped bad) (dropped halted) = λ kind.
    course_drops handlers there always (chosen (block_result kind kinds.Good) behind bad halted) (chosen (block_result kind kinds.Bad) behind bad halted) (chosen (block_result kind kinds.Halted) behind bad halted)
    ∙ (λ i. course handlers there always (chosen_drops (block_result kind kinds.Good) behind bad halted i) (chosen_drops (block_result kind kinds.Bad) behind bad halted i) (chosen_drops (block_result kind kinds.Halted) behind bad halted i))
    ∙ ap (λ c. always_of handlers there always kind c (dropped bad) (dropped halted)) rests
    in
    let rescued = course_drops handlers (at + size handlers body) rescue (always_of handlers there always kinds.Good behind bad halted) (always_of handlers there always kinds.Bad behind bad halted) (always_of handlers there always kinds.Halted behind bad halted)
    ∙ (λ i. course handlers (at + size handlers body) rescue (last kinds.Good i) (last kinds.Bad i) (last kinds.Halted i)) in
    course_drops handlers at body (always_of handlers there always kinds.Good behind bad halted)
    (rescue_of (is_empty rescue) (always_of handlers there always kinds.Bad behind bad halted) (course handlers (at + size handlers body) rescue (always_of handlers there always kinds.Good behind bad halted) (always_of handlers there always kinds.Bad behind bad halted) (always_of handlers there always kinds.Halted behind bad halted)))
    (always_of handlers there always kinds.Halted behind bad halted)
    ∙ ap (λ c. course handlers at body (dropped (always_of handlers there always kinds.Good behind bad halted)) c (dropped (always_of handlers there always kinds.Halted behind bad halted)))
    (rescue_drops (is_empty rescue) (always_of handlers there always kinds.Bad behind bad halted) (course handlers (at + size handlers body) rescue (always_of handlers there always kinds.Good behind bad halted) (always_of handlers there always kinds.Bad behind bad halted) (always_of handlers there always kinds.Halted behind bad halted)))
    ∙ (λ i. course handlers at body (last kinds.Good i) (rescue_of (is_empty rescue) (last kinds.Bad i) (rescued i)) (last kinds.Halted i))
course_drops handlers at (Flush rest) good bad halted =
    flush_drops at 0 handlers (course handlers (at + handlers) rest good bad halted) bad halted
    ∙ ap (λ c. flush_course at 0 handlers kinds.Ended c (dropped bad) (dropped halted)) (course_drops handlers (at + handlers) rest good bad halted)

bad_drops : (at n : ℕ) → dropped (last_flush at n kinds.Bad) ≡ Ends kinds.Bad
bad_drops at zero = refl
bad_drops at (suc n) = refl

halted_drops : (at n : ℕ) → dropped (last_flush at n kinds.Halted) ≡ Ends kinds.Halted
halted_drops at zero = refl
halted_drops at (suc n) = refl

-- the last Flush of a list of nodes is what stands behind the others
flush_ends : (handlers at : ℕ) (nodes : Nodes) (good bad halted : Course)
    → course handlers (at + handlers) nodes good bad halted ≡ course handlers (at + handlers) (front nodes) (flush_course (at + handlers + size handlers (front nodes)) 0 handlers kinds.Ended good bad halted) bad halted
    → flush_course at 0 handlers kinds.Ended (course handlers (at + handlers) nodes good bad halted) bad halted
    ≡ flush_course at 0 handlers kinds.Ended (course handlers (at + handlers) (front nodes) (flush_course (at + (handlers + size handlers (front nodes))) 0 handlers kinds.Ended good bad halted) bad halted) bad halted
flush_ends handlers at nodes good bad halted i =
    ap (λ c. flush_course at 0 handlers kinds.Ended c bad halted)
    (i ∙ ap (λ n. course handlers (at + handlers) (front nodes) (flush_course n 0 handlers kinds.Ended good bad halted) bad halted) (let same : at + handlers + size handlers (front nodes) ≡ at + (handlers + size handlers (front nodes)) = omega arith in same))

course_ends : (handlers at : ℕ) (nodes : Nodes) (good bad halted : Course) → ends_in_flush nodes ≡ true
    → course handlers at nodes good bad halted ≡ course handlers at (front nodes) (flush_course (at + size handlers (front nodes)) 0 handlers kinds.Ended good bad halted) bad halted
course_ends handlers at Nothing good bad halted e = cc
course_ends handlers at (Task rest) good bad halted e =
    ap (λ c. Runs at None kinds.Ended c bad halted)
    (course_ends handlers (at + 1) rest good bad halted e
    ∙ ap (λ n. course handlers (at + 1) (front rest) (flush_course n 0 handlers kinds.Ended good bad halted) bad halted) (let same : at + 1 + size handlers (front rest) ≡ at + (1 + size handlers (front rest)) = omega arith in same))
course_ends handlers at (Block body rescue always rest) good bad halted e =
    let here = at + size handlers body + size handlers rescue + size handlers always in
    let same : here + size handlers (front rest) ≡ at + (size handlers body + size handlers rescue + size handlers always + size handlers (front rest)) = omega arith in
    let rests = course_ends handlers here rest good bad halted e ∙ ap (λ n. course handlers here (front rest) (flush_course n 0 handlers kinds.Ended good bad halted) bad halted) same in
    let there = at + size handlers body + size handlers rescue in
    ap (λ behind.
    course handlers at body (always_of handlers there always kinds.Good behind bad halted)
    (rescue_of (is_empty rescue) (always_of handlers there always kinds.Bad behind bad halted) (course handlers (at + size handlers body) rescue (always_of handlers there always kinds.Good behind bad halted) (always_of handlers there always kinds.Bad behind bad halted) (always_of handlers there always kinds.Halted behind bad halted)))
    (always_of handlers there always kinds.Halted behind bad halted)) rests
course_ends handlers at (Flush Nothing) good bad halted e = ap (λ n. flush_course n 0 handlers kinds.Ended good bad halted) (let same : at ≡ at + 0 = omega arith in same)
course_ends handlers at (Flush (Task rest)) good bad halted e = flush_ends handlers at (Task rest) good bad halted (course_ends handlers (at + handlers) (Task rest) good bad halted e)
course_ends handlers at (Flush (Block body rescue always rest)) good bad halted e = flush_ends handlers at (Block body rescue always rest) good bad halted (course_ends handlers (at + handlers) (Block body rescue always rest) good bad halted e)
course_ends handlers at (Flush (Flush rest)) good bad halted e = flush_ends handlers at (Flush rest) good bad halted (course_ends handlers (at + handlers) (Flush rest) good bad halted e)

-- without its force a tree's course is what is left of it
forced_drops : (handlers : ℕ) (nodes : Nodes) → ends_in_flush nodes ≡ true → dropped (forced_course handlers (front nodes)) ≡ plain_course handlers nodes
forced_drops handlers nodes e =
    let before = size handlers (front nodes) in
    course_drops handlers 0 (front nodes) (flush_course before 0 handlers kinds.Ended (Ends kinds.Good) (Ends kinds.Bad) (Ends kinds.Halted)) (last_flush before handlers kinds.Bad) (last_flush before handlers kinds.Halted)
    ∙ (λ i. course handlers 0 (front nodes) (flush_drops before 0 handlers (Ends kinds.Good) (Ends kinds.Bad) (Ends kinds.Halted) i) (bad_drops before handlers i) (halted_drops before handlers i))
    ∙ ap (λ n. course handlers 0 (front nodes) (flush_course n 0 handlers kinds.Ended (Ends kinds.Good) (Ends kinds.Bad) (Ends kinds.Halted)) (Ends kinds.Bad) (Ends kinds.Halted)) (let same : before ≡ 0 + before = omega arith in same)
    ∙ sym (course_ends handlers 0 nodes (Ends kinds.Good) (Ends kinds.Bad) (Ends kinds.Halted) e)

whole_drops : (handlers : ℕ) (nodes : Nodes) (b force : Bool) → (force && ends_in_flush nodes) ≡ b → dropped (if b then forced_course handlers (front nodes) else plain_course handlers nodes) ≡ plain_course handlers nodes
whole_drops handlers nodes true true e = forced_drops handlers nodes e
whole_drops handlers nodes true false e = cc
whole_drops handlers nodes false force e = course_drops handlers 0 nodes (Ends kinds.Good) (Ends kinds.Bad) (Ends kinds.Halted)

tree_drops : (tree : TreeOf) → dropped (course_of tree) ≡ course_of (unforced tree)
tree_drops tree = whole_drops tree.handlers tree.nodes (tree.force_handlers && ends_in_flush tree.nodes) tree.force_handlers refl

-- ---- the handlers that are forced
abbrev is_out : Kind → Bool
is_out kinds.Good = false
is_out kinds.Bad = true
is_out kinds.Halted = true
is_out kinds.Gone = false
is_out kinds.Ended = false

-- whatever is answered there but that the host is gone, the whole ends with this kind
abbrev IsLast : Kind → Course → Type 0
IsLast kind (Ends end) = end ≡ kind
IsLast kind (Runs place handler over good bad halted) = (over ≡ kind) × (IsLast kind good × IsLast kind bad × IsLast kind halted)

abbrev sound_by : Kind → Type 0 → Type 0 → Type 0
sound_by kinds.Ended steps last = steps
sound_by kinds.Bad steps last = last
sound_by kinds.Halted steps last = last
sound_by kinds.Good steps last = ⊥
sound_by kinds.Gone steps last = ⊥

-- what runs ends the whole as ended, or is forced
abbrev IsSound : Course → Type 0
IsSound (Ends kind) = Unit {0}
IsSound (Runs place handler over good bad halted) = sound_by over (IsSound good × IsSound bad × IsSound halted) (IsLast over good × IsLast over bad × IsLast over halted)

sound_over : (over kind : Kind) (steps last : Type 0) → over ≡ kind → is_out kind ≡ true → last → sound_by over steps last
sound_over kinds.Ended kind steps last e o l = absurd (let no : is_out kinds.Ended ≡ true = ap is_out e ∙ o in cc)
sound_over kinds.Bad kind steps last e o l = l
sound_over kinds.Halted kind steps last e o l = l
sound_over kinds.Good kind steps last e o l = absurd (let no : is_out kinds.Good ≡ true = ap is_out e ∙ o in cc)
sound_over kinds.Gone kind steps last e o l = absurd (let no : is_out kinds.Gone ≡ true = ap is_out e ∙ o in cc)

last_sound : (kind : Kind) (c : Course) → is_out kind ≡ true → IsLast kind c → IsSound c
last_sound kind (Ends end) o l = tt
last_sound kind (Runs place handler over good bad halted) o l =
    sound_over over kind (IsSound good × IsSound bad × IsSound halted) (IsLast over good × IsLast over bad × IsLast over halted) l.0 o (rw l.0 l.1)

kept_last : (over kind : Kind) (place : ℕ) (handler : Option ℕ) (good bad halted : Course) → over ≡ kind → is_out kind ≡ true → kept over place handler good bad halted ≡ Ends kind
kept_last kinds.Ended kind place handler good bad halted e o = absurd (let no : is_out kinds.Ended ≡ true = ap is_out e ∙ o in cc)
kept_last kinds.Good kind place handler good bad halted e o = ap Ends e
kept_last kinds.Bad kind place handler good bad halted e o = ap Ends e
kept_last kinds.Halted kind place handler good bad halted e o = ap Ends e
kept_last kinds.Gone kind place handler good bad halted e o = ap Ends e

last_dropped : (kind : Kind) (c : Course) → is_out kind ≡ true → IsLast kind c → dropped c ≡ Ends kind
last_dropped kind (Ends end) o l = ap Ends l
last_dropped kind (Runs place handler over good bad halted) o l = kept_last over kind place handler (dropped good) (dropped bad) (dropped halted) l.0 o

next_run_last : (kind : Kind) (c : Course) (marks : List Bool) → IsLast kind c → IsLast kind (from_next_run c marks)
next_run_last kind (Ends end) marks l = l
next_run_last kind (Runs place handler over good bad halted) marks l = by_run (is_run handler marks) (next_run_last kind good marks l.1.0)
  where
    by_run : (b : Bool) → IsLast kind (from_next_run good marks) → IsLast kind (if b then Runs place handler over good bad halted else from_next_run good marks)
    by_run true i = l
    by_run false i = i

next_run_sound : (c : Course) (marks : List Bool) → IsSound c → IsSound (from_next_run c marks)
next_run_sound (Ends kind) marks s = tt
next_run_sound (Runs place handler kinds.Ended good bad halted) marks s = by_run (is_run handler marks) (next_run_sound good marks s.0)
  where
    by_run : (b : Bool) → IsSound (from_next_run good marks) → IsSound (if b then Runs place handler kinds.Ended good bad halted else from_next_run good marks)
    by_run true i = s
    by_run false i = i
next_run_sound (Runs place handler kinds.Bad good bad halted) marks s = by_run (is_run handler marks) (last_sound kinds.Bad (from_next_run good marks) refl (next_run_last kinds.Bad good marks s.0))
  where
    by_run : (b : Bool) → IsSound (from_next_run good marks) → IsSound (if b then Runs place handler kinds.Bad good bad halted else from_next_run good marks)
    by_run true i = s
    by_run false i = i
next_run_sound (Runs place handler kinds.Halted good bad halted) marks s = by_run (is_run handler marks) (last_sound kinds.Halted (from_next_run good marks) refl (next_run_last kinds.Halted good marks s.0))
  where
    by_run : (b : Bool) → IsSound (from_next_run good marks) → IsSound (if b then Runs place handler kinds.Halted good bad halted else from_next_run good marks)
    by_run true i = s
    by_run false i = i
next_run_sound (Runs place handler kinds.Good good bad halted) marks s = absurd s
next_run_sound (Runs place handler kinds.Gone good bad halted) marks s = absurd s

next_run_drops : (c : Course) (marks : List Bool) → IsSound c → dropped (from_next_run c marks) ≡ from_next_run (dropped c) marks
next_run_drops (Ends kind) marks s = refl
next_run_drops (Runs place handler kinds.Ended good bad halted) marks s = by_run (is_run handler marks) (next_run_drops good marks s.0)
  where
    by_run : (b : Bool) → dropped (from_next_run good marks) ≡ from_next_run (dropped good) marks
        → dropped (if b then Runs place handler kinds.Ended good bad halted else from_next_run good marks) ≡ (if b then Runs place handler kinds.Ended (dropped good) (dropped bad) (dropped halted) else from_next_run (dropped good) marks)
    by_run true i = refl
    by_run false i = i
next_run_drops (Runs place handler kinds.Bad good bad halted) marks s = by_run (is_run handler marks) (last_dropped kinds.Bad (from_next_run good marks) refl (next_run_last kinds.Bad good marks s.0))
  where
    by_run : (b : Bool) → dropped (from_next_run good marks) ≡ Ends kinds.Bad → dropped (if b then Runs place handler kinds.Bad good bad halted else from_next_run good marks) ≡ Ends kinds.Bad
    by_run true i = refl
    by_run false i = i
next_run_drops (Runs place handler kinds.Halted good bad halted) marks s = by_run (is_run handler marks) (last_dropped kinds.Halted (from_next_run good marks) refl (next_run_last kinds.Halted good marks s.0))
  where
    by_run : (b : Bool) → dropped (from_next_run good marks) ≡ Ends kinds.Halted → dropped (if b then Runs place handler kinds.Halted good bad halted else from_next_run good marks) ≡ Ends kinds.Halted
    by_run true i = refl
    by_run false i = i
next_run_drops (Runs place handler kinds.Good good bad halted) marks s = absurd s
next_run_drops (Runs place handler kinds.Gone good bad halted) marks s = absurd s

-- ---- each tree's course is sound
flush_sound : (at h n : ℕ) (good bad halted : Course) → IsSound good → IsSound bad → IsSound halted → IsSound (flush_course at h n kinds.Ended good bad halted)
flush_sound at h zero good bad halted g b l = g
flush_sound at h (suc n) good bad halted g b l = (flush_sound at (h + 1) n good bad halted g b l, b, l)

chosen_sound : (kind : Kind) (good bad halted : Course) → IsSound good → IsSound bad → IsSound halted → IsSound (chosen kind good bad halted)
chosen_sound kinds.Good good bad halted g b l = g
chosen_sound kinds.Bad good bad halted g b l = b
chosen_sound kinds.Halted good bad halted g b l = l
chosen_sound kinds.Gone good bad halted g b l = tt
chosen_sound kinds.Ended good bad halted g b l = tt

rescue_sound : (none : Bool) (last rescue : Course) → IsSound last → IsSound rescue → IsSound (rescue_of none last rescue)
rescue_sound true last rescue l r = l
rescue_sound false last rescue l r = r

course_sound : (handlers at : ℕ) (nodes : Nodes) (good bad halted : Course) → IsSound good → IsSound bad → IsSound halted → IsSound (course handlers at nodes good bad halted)
course_sound handlers at Nothing good bad halted g b l = g
course_sound handlers at (Task rest) good bad halted g b l = (course_sound handlers (at + 1) rest good bad halted g b l, b, l)
course_sound handlers at (Block body rescue always rest) good bad halted g b l =
    let behind = course handlers (at + size handlers body + size handlers rescue + size handlers always) rest good bad halted in
    let rests : IsSound behind = course_sound handlers (at + size handlers body + size handlers rescue + size handlers always) rest good bad halted g b l in
    let there = at + size handlers body + size handlers rescue in
    let last : (kind : Kind) → IsSound (always_of handlers there always kind behind bad halted) = λ kind.
    course_sound handlers there always (chosen (block_result kind kinds.Good) behind bad halted) (chosen (block_result kind kinds.Bad) behind bad halted) (chosen (block_result kind kinds.Halted) behind bad halted)
    (chosen_sound (block_result kind kinds.Good) behind bad halted rests b l) (chosen_sound (block_result kind kinds.Bad) behind bad halted rests b l) (chosen_sound (block_result kind kinds.Halted) behind bad halted rests b l)
    in
    course_sound handlers at body (always_of handlers there always kinds.Good behind bad halted)
    (rescue_of (is_empty rescue) (always_of handlers there always kinds.Bad behind bad halted) (course handlers (at + size handlers body) rescue (always_of handlers there always kinds.Good behind bad halted) (always_of handlers there always kinds.Bad behind bad halted) (always_of handlers there always kinds.Halted behind bad halted)))
    (always_of handlers there always kinds.Halted behind bad halted)
    (last kinds.Good)
    (rescue_sound (is_empty rescue) (always_of handlers there always kinds.Bad behind bad halted) (course handlers (at + size handlers body) rescue (always_of handlers there always kinds.Good behind bad halted) (always_of handlers there always kinds.Bad behind bad halted) (always_of handlers there always kinds.Halted behind bad halted))
    (last kinds.Bad)
    (course_sound handlers (at + size handlers body) rescue (always_of handlers there always kinds.Good behind bad halted) (always_of handlers there always kinds.Bad behind bad halted) (always_of handlers there always kinds.Halted behind bad halted) (last kinds.Good) (last kinds.Bad) (last kinds.Halted)))
    (last kinds.Halted)
course_sound handlers at (Flush rest) good bad halted g b l =
    flush_sound at 0 handlers (course handlers (at + handlers) rest good bad halted) bad halted (course_sound handlers (at + handlers) rest good bad halted g b l) b l

flush_last : (at h n : ℕ) (kind : Kind) → IsLast kind (flush_course at h n kind (Ends kind) (Ends kind) (Ends kind))
flush_last at h zero kind = refl
flush_last at h (suc n) kind = (refl, (flush_last at (h + 1) n kind, refl, refl))

whole_sound : (handlers : ℕ) (nodes : Nodes) (b : Bool) → IsSound (if b then forced_course handlers (front nodes) else plain_course handlers nodes)
whole_sound handlers nodes true =
    let before = size handlers (front nodes) in
    course_sound handlers 0 (front nodes) (flush_course before 0 handlers kinds.Ended (Ends kinds.Good) (Ends kinds.Bad) (Ends kinds.Halted)) (last_flush before handlers kinds.Bad) (last_flush before handlers kinds.Halted)
    (flush_sound before 0 handlers (Ends kinds.Good) (Ends kinds.Bad) (Ends kinds.Halted) tt tt tt)
    (last_sound kinds.Bad (last_flush before handlers kinds.Bad) refl (flush_last before 0 handlers kinds.Bad))
    (last_sound kinds.Halted (last_flush before handlers kinds.Halted) refl (flush_last before 0 handlers kinds.Halted))
whole_sound handlers nodes false = course_sound handlers 0 nodes (Ends kinds.Good) (Ends kinds.Bad) (Ends kinds.Halted) tt tt tt

tree_sound : (tree : TreeOf) → IsSound (course_of tree)
tree_sound tree = whole_sound tree.handlers tree.nodes (tree.force_handlers && ends_in_flush tree.nodes)

-- ---- a host beside one for which nothing is forced
abbrev is_ends : Course → Bool
is_ends (Ends kind) = true
is_ends (Runs place handler over good bad halted) = false

-- the other one is where this one would be without what is forced, or this one is gone there
abbrev IsNear : Course → Course → List Bool → List Bool → Type 0
IsNear c d m n = ((d ≡ dropped c) × (is_ends d ≡ false → n ≡ m)) ⊎ ((c ≡ Ends kinds.Gone) × (is_ends d ≡ true))

record Beside (s t : Stand) : Type 0 where
  halted : t.halted ≡ s.halted
  sound : IsSound s.course
  near : IsNear s.course t.course s.marks t.marks

after_drops : (kind : Kind) (good bad halted : Course) → after_kind kind kinds.Ended (dropped good) (dropped bad) (dropped halted) ≡ dropped (after_kind kind kinds.Ended good bad halted)
after_drops kinds.Good good bad halted = refl
after_drops kinds.Bad good bad halted = refl
after_drops kinds.Halted good bad halted = refl
after_drops kinds.Gone good bad halted = refl
after_drops kinds.Ended good bad halted = refl

after_sound : (kind : Kind) (good bad halted : Course) → IsSound good → IsSound bad → IsSound halted → IsSound (after_kind kind kinds.Ended good bad halted)
after_sound kinds.Good good bad halted g b l = g
after_sound kinds.Bad good bad halted g b l = b
after_sound kinds.Halted good bad halted g b l = l
after_sound kinds.Gone good bad halted g b l = tt
after_sound kinds.Ended good bad halted g b l = tt

-- one answer in a part that isn't forced
step_beside : (place : ℕ) (handler : Option ℕ) (good bad halted : Course) (m n : List Bool) (was : Bool) (a : AnswerOf) → IsSound good → IsSound bad → IsSound halted → n ≡ m
    → Beside (answered (Runs place handler kinds.Ended good bad halted) m was a) (answered (Runs place handler kinds.Ended (dropped good) (dropped bad) (dropped halted)) n was a)
step_beside place handler good bad halted m n was a g b l e =
    let marks = noted (ran handler a.kind m) a.notified in
    let same : noted (ran handler a.kind n) a.notified ≡ marks = ap (λ x. noted (ran handler a.kind x) a.notified) e in
    record {
      halted = refl;
      sound = next_run_sound (after_kind a.kind kinds.Ended good bad halted) marks (after_sound a.kind good bad halted g b l);
      near = inl (
        (λ i. from_next_run (after_drops a.kind good bad halted i) (same i)) ∙ sym (next_run_drops (after_kind a.kind kinds.Ended good bad halted) marks (after_sound a.kind good bad halted g b l)),
        λ runs. same,
      );
    }

-- one answer in a part that is forced
last_near : (kind : Kind) (c : Course) (m n : List Bool) → is_out kind ≡ true → IsLast kind c → IsNear c (Ends kind) m n
last_near kind c m n o l = inl (sym (last_dropped kind c o l), λ no. cc)

forced_beside : (over : Kind) (place : ℕ) (handler : Option ℕ) (good bad halted : Course) (m n : List Bool) (was : Bool) (a : AnswerOf) (kind : Kind) → a.kind ≡ kind → is_out over ≡ true → IsLast over good → IsLast over bad → IsLast over halted
    → Beside (standing (after_kind kind over good bad halted) (noted (ran handler kind m) a.notified) was) (record { course = Ends over; marks = n; halted = was })
forced_beside over place handler good bad halted m n was a kinds.Good k o g b l =
    let marks = noted (ran handler kinds.Good m) a.notified in
    let last = next_run_last over good marks g in
    record { halted = refl; sound = last_sound over (from_next_run good marks) o last; near = last_near over (from_next_run good marks) marks n o last }
forced_beside over place handler good bad halted m n was a kinds.Bad k o g b l =
    let marks = noted (ran handler kinds.Bad m) a.notified in
    let last = next_run_last over bad marks b in
    record { halted = refl; sound = last_sound over (from_next_run bad marks) o last; near = last_near over (from_next_run bad marks) marks n o last }
forced_beside over place handler good bad halted m n was a kinds.Halted k o g b l =
    let marks = noted (ran handler kinds.Halted m) a.notified in
    let last = next_run_last over halted marks l in
    record { halted = refl; sound = last_sound over (from_next_run halted marks) o last; near = last_near over (from_next_run halted marks) marks n o last }
forced_beside over place handler good bad halted m n was a kinds.Gone k o g b l = record { halted = refl; sound = tt; near = inr (refl, refl) }
forced_beside over place handler good bad halted m n was a kinds.Ended k o g b l = record { halted = refl; sound = tt; near = inl (refl, λ no. cc) }

dropped_beside : (c : Course) (m n : List Bool) (was : Bool) (a : AnswerOf) → IsSound c → (is_ends (dropped c) ≡ false → n ≡ m) → Beside (answered c m was a) (answered (dropped c) n was a)
dropped_beside (Ends kind) m n was a s e = record { halted = refl; sound = tt; near = inl (refl, λ no. cc) }
dropped_beside (Runs place handler kinds.Ended good bad halted) m n was a s e = step_beside place handler good bad halted m n was a s.0 s.1 s.2 (e refl)
dropped_beside (Runs place handler kinds.Bad good bad halted) m n was a s e = forced_beside kinds.Bad place handler good bad halted m n was a a.kind refl refl s.0 s.1 s.2
dropped_beside (Runs place handler kinds.Halted good bad halted) m n was a s e = forced_beside kinds.Halted place handler good bad halted m n was a a.kind refl refl s.0 s.1 s.2
dropped_beside (Runs place handler kinds.Good good bad halted) m n was a s e = absurd s
dropped_beside (Runs place handler kinds.Gone good bad halted) m n was a s e = absurd s

gone_beside : (d : Course) (m n : List Bool) (was : Bool) (a : AnswerOf) → is_ends d ≡ true → Beside (answered (Ends kinds.Gone) m was a) (answered d n was a)
gone_beside (Ends kind) m n was a e = record { halted = refl; sound = tt; near = inr (refl, refl) }
gone_beside (Runs place handler over good bad halted) m n was a e = cc

answered_beside : (c d : Course) (m n : List Bool) (was : Bool) (a : AnswerOf) → IsSound c → IsNear c d m n → Beside (answered c m was a) (answered d n was a)
answered_beside c d m n was a s (inl p) = subst (λ x. Beside (answered c m was a) (answered x n was a)) (sym p.0) (dropped_beside c m n was a s (λ e. p.1 (ap is_ends p.0 ∙ e)))
answered_beside c d m n was a s (inr p) = subst (λ x. Beside (answered x m was a) (answered d n was a)) (sym p.0) (gone_beside d m n was a p.1)

abbrev passes : Stand → AnswerOf → Bool → Bool → Stand
passes s a b was = if b then s else answered s.course s.marks was a

turn_beside : (s t : Stand) (a : AnswerOf) (b was : Bool) → Beside s t → Beside (passes s a b was) (passes t a b was)
turn_beside s t a true was p = p
turn_beside s t a false was p = answered_beside s.course t.course s.marks t.marks was a p.sound p.near

advanced_beside : (s t : Stand) (a : AnswerOf) → Beside s t → Beside (advanced s a) (advanced t a)
advanced_beside s t a p =
    subst (λ h. Beside (advanced s a) (passes t a (h && is_halted a.kind) (h || is_halted a.kind))) (sym p.halted)
    (turn_beside s t a (s.halted && is_halted a.kind) (s.halted || is_halted a.kind) p)

after_beside : (s t : Stand) (answers : List AnswerOf) → Beside s t → Beside (after s answers) (after t answers)
after_beside s t [] p = p
after_beside s t (a ∷ answers) p = after_beside (advanced s a) (advanced t a) answers (advanced_beside s t a p)

first_beside : (tree : TreeOf) → Beside (first_of (course_of tree) tree.handlers) (first_of (course_of (unforced tree)) tree.handlers)
first_beside tree =
    let marks = replicate tree.handlers false in
    record {
      halted = refl;
      sound = next_run_sound (course_of tree) marks (tree_sound tree);
      near = inl (ap (λ c. from_next_run c marks) (sym (tree_drops tree)) ∙ sym (next_run_drops (course_of tree) marks (tree_sound tree)), λ runs. refl);
    }

-- ---- what it is
now_dropped : (was : Bool) (c : Course) (m n : List Bool) → IsSound c → now_in was c ≡ unless_active (status_in was (passage_at c m)) (status_in was (passage_at (dropped c) n))
now_dropped was (Ends kinds.Good) m n s = refl
now_dropped true (Ends kinds.Bad) m n s = refl
now_dropped false (Ends kinds.Bad) m n s = refl
now_dropped true (Ends kinds.Halted) m n s = refl
now_dropped false (Ends kinds.Halted) m n s = refl
now_dropped was (Ends kinds.Gone) m n s = refl
now_dropped was (Ends kinds.Ended) m n s = refl
now_dropped was (Runs place handler kinds.Ended good bad halted) m n s = refl
now_dropped true (Runs place handler kinds.Bad good bad halted) m n s = refl
now_dropped false (Runs place handler kinds.Bad good bad halted) m n s = refl
now_dropped true (Runs place handler kinds.Halted good bad halted) m n s = refl
now_dropped false (Runs place handler kinds.Halted good bad halted) m n s = refl
now_dropped was (Runs place handler kinds.Good good bad halted) m n s = absurd s
now_dropped was (Runs place handler kinds.Gone good bad halted) m n s = absurd s

now_near : (was : Bool) (c d : Course) (m n : List Bool) → IsSound c → IsNear c d m n → now_in was c ≡ unless_active (status_in was (passage_at c m)) (status_in was (passage_at d n))
now_near was c d m n s (inl p) = now_dropped was c m n s ∙ ap (λ x. unless_active (status_in was (passage_at c m)) (status_in was (passage_at x n))) (sym p.0)
now_near was c d m n s (inr p) = subst (λ x. now_in was x ≡ unless_active (status_in was (passage_at x m)) (status_in was (passage_at d n))) (sym p.0) refl

now_beside : (s t : Stand) → Beside s t → now_at s ≡ unless_active (status_at s) (status_at t)
now_beside s t p =
    now_near s.halted s.course t.course s.marks t.marks p.sound p.near
    ∙ ap (λ h. unless_active (status_at s) (status_in h (passage_at t.course t.marks))) (sym p.halted)

pub out_at_once : BadAreOutAtOnce
out_at_once tree answers =
    now_beside (stand_of tree answers) (stand_of (unforced tree) answers) (after_beside (first_of (course_of tree) tree.handlers) (first_of (course_of (unforced tree)) tree.handlers) answers (first_beside tree))
    ∙ (λ i. unless_active ((stands_are_walks tree answers).status i) ((stands_are_walks (unforced tree) answers).status i))

pub stays_now : (c : CursorOf) (result : Status) → ((plan : PlanOf) → result ≡ now_at (seen plan c)) → (plan : PlanOf) (tree : TreeOf) (answers : List AnswerOf) → StandsAfter plan c tree answers → result ≡ status_now tree answers
stays_now c result e plan tree answers s = e plan ∙ ap now_at s ∙ out_at_once tree answers
