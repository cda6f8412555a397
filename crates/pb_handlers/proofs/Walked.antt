-- The marks of a host's walk are those of the history that its answers tell.
use Rattle.std.proofs.Common.{◌≡◌, ℕ, zero, suc, ◌+◌, ◌<◌, Bool, true, false, List, [], ◌∷◌, ◌++◌, length, get_or, set, replicate, Option, Some, None, refl, sym, ap, subst, ◌∙◌, arith}
use Rattle.std.specs.Prelude.{◌&&◌, ◌||◌, not, if◌then◌else◌, slice_get}
use Rattle.std.specs.List.{list_any}
use Rattle.std.proofs.lemmas.List.{append_assoc, append-nil, get_or_append_left, get_or-append-add, length-append}
use Rattle.pb_tree.specs.declared.answer.Kind.{Kind}
use Rattle.pb_tree.specs.declared.answer.Kind.TheVariants as kinds
use Rattle.pb_tree.specs.Answer.{AnswerOf}
use Rattle.pb_tree.specs.Tree.{Nodes, Nothing, Task, Block, Flush, TreeOf, size, handler_paths, paths_from}
use Rattle.pb_tree.specs.Walk.{is_empty, block_result, noted, is_halted, ends_in_flush, front, reach_of}
use Rattle.pb_flat.specs.Course.{Course, Ends, Runs, Stand, chosen, flush_course, course, plain_course, forced_course, course_of, is_run, from_next_run, after_kind, ran, answered, advanced, after, first_of, passage_at, reach_at, stand_of}
use Rattle.pb_flat.specs.Laws.{StandsAreWalks, AnswersLeadOn}
use Rattle.pb_handlers.specs.Pending.{Noted, Notified, Ran, marks_after}
use Rattle.pb_handlers.specs.History.{handlers_from, handlers_in, handler_at, ran_by, happened_at, happened_by, happened_behind}
use Rattle.pb_handlers.specs.Laws.{MarksAreNotes, HandlersEndPlaces}
use Rattle.pb_handlers.proofs.Bits.{notified_marks, ran_marks, first_marks}

-- ---- at each place of a course stands the handler that is looked up there
abbrev pub IsRight : (ℕ → Option ℕ) → Course → Type 0
IsRight look (Ends kind) = Unit {0}
IsRight look (Runs place handler over good bad halted) = (look place ≡ handler) × IsRight look good × IsRight look bad × IsRight look halted

-- a list of places stands within the whole list from a number on
abbrev Sits : List (Option ℕ) → ℕ → List (Option ℕ) → Type 0
Sits whole at xs = (i : ℕ) → i < length xs → get_or whole (at + i) None ≡ get_or xs i None

sits_left : (whole : List (Option ℕ)) (at : ℕ) (xs ys : List (Option ℕ)) → Sits whole at (xs ++ ys) → Sits whole at xs
sits_left whole at xs ys s = λ i l. s i (omega (arith, l, length-append xs ys)) ∙ get_or_append_left xs ys None i l

sits_right : (whole : List (Option ℕ)) (at n : ℕ) (xs ys : List (Option ℕ)) → length xs ≡ n → Sits whole at (xs ++ ys) → Sits whole (at + n) ys
sits_right whole at n xs ys e s =
    λ i l. ap (λ j. get_or whole j None) (omega (arith, e)) ∙ s (length xs + i) (omega (arith, l, length-append xs ys)) ∙ get_or-append-add xs ys i None

length-from : (h n : ℕ) → length (handlers_from h n) ≡ n
length-from h zero = refl
length-from h (suc n) = ap suc (length-from (h + 1) n)

from_at : (h n i : ℕ) → i < n → get_or (handlers_from h n) i None ≡ Some (h + i)
from_at h zero i l = absurd (omega (arith, l))
from_at h (suc n) zero l = ap (λ j. Some j) (omega arith)
from_at h (suc n) (suc i) l = from_at (h + 1) n i (omega (arith, l)) ∙ ap (λ j. Some j) (omega arith)

length-in : (handlers : ℕ) (nodes : Nodes) → length (handlers_in handlers nodes) ≡ size handlers nodes
length-in handlers Nothing = refl
length-in handlers (Task rest) = let i = length-in handlers rest in omega (arith, i)
length-in handlers (Block body rescue always rest) =
    let b = length-in handlers body in let r = length-in handlers rescue in let a = length-in handlers always in let i = length-in handlers rest in
    let x = length-append (handlers_in handlers body ++ handlers_in handlers rescue ++ handlers_in handlers always) (handlers_in handlers rest) in
    let y = length-append (handlers_in handlers body ++ handlers_in handlers rescue) (handlers_in handlers always) in
    let z = length-append (handlers_in handlers body) (handlers_in handlers rescue) in
    omega (arith, b, r, a, i, x, y, z)
length-in handlers (Flush rest) =
    let f = length-from 0 handlers in let i = length-in handlers rest in let x = length-append (handlers_from 0 handlers) (handlers_in handlers rest) in omega (arith, f, i, x)

chosen_right : (look : ℕ → Option ℕ) (kind : Kind) (good bad halted : Course) → IsRight look good → IsRight look bad → IsRight look halted → IsRight look (chosen kind good bad halted)
chosen_right look kinds.Good good bad halted g b h = g
chosen_right look kinds.Bad good bad halted g b h = b
chosen_right look kinds.Halted good bad halted g b h = h
chosen_right look kinds.Gone good bad halted g b h = tt
chosen_right look kinds.Ended good bad halted g b h = tt

flush_right : (look : ℕ → Option ℕ) (at h left : ℕ) (over : Kind) (good bad halted : Course) → ((i : ℕ) → i < left → look (at + (h + i)) ≡ Some (h + i))
    → IsRight look good → IsRight look bad → IsRight look halted → IsRight look (flush_course at h left over good bad halted)
flush_right look at h zero over good bad halted f g b d = g
flush_right look at h (suc left) over good bad halted f g b d = (
  subst (λ j. look (at + j) ≡ Some j) (omega arith) (f 0 (omega arith)),
  flush_right look at (h + 1) left over good bad halted (λ i l. subst (λ j. look (at + j) ≡ Some j) (omega arith) (f (suc i) (omega (arith, l)))) g b d,
  b,
  d,
)

flush_sits : (whole : List (Option ℕ)) (at handlers : ℕ) (over : Kind) (good bad halted : Course) → Sits whole at (handlers_from 0 handlers)
    → IsRight (λ place. get_or whole place None) good → IsRight (λ place. get_or whole place None) bad → IsRight (λ place. get_or whole place None) halted
    → IsRight (λ place. get_or whole place None) (flush_course at 0 handlers over good bad halted)
flush_sits whole at handlers over good bad halted s g b d =
    flush_right (λ place. get_or whole place None) at 0 handlers over good bad halted
    (λ i l. ap (λ j. get_or whole (at + j) None) (omega arith) ∙ s i (omega (arith, l, length-from 0 handlers)) ∙ from_at 0 handlers i l) g b d

course_right : (whole : List (Option ℕ)) (handlers at : ℕ) (nodes : Nodes) (good bad halted : Course) → Sits whole at (handlers_in handlers nodes)
    → IsRight (λ place. get_or whole place None) good → IsRight (λ place. get_or whole place None) bad → IsRight (λ place. get_or whole place None) halted
    → IsRight (λ place. get_or whole place None) (course handlers at nodes good bad halted)
course_right whole handlers at Nothing good bad halted s g b d = g
course_right whole handlers at (Task rest) good bad halted s g b d = (
  subst (λ j. get_or whole j None ≡ None) (omega arith) (s 0 (omega arith)),
  course_right whole handlers (at + 1) rest good bad halted (sits_right whole at 1 (None ∷ []) (handlers_in handlers rest) refl s) g b d,
  b,
  d,
)
course_right whole handlers at (Block body rescue always rest) good bad halted s g b d =
    let bs = handlers_in handlers body in let rs = handlers_in handlers rescue in let cs = handlers_in handlers always in let es = handlers_in handlers rest in
    let look = λ (place : ℕ). get_or whole place None in
    let lb = length-in handlers body in let lr = length-in handlers rescue in let la = length-in handlers always in
    let upto = sits_left whole at (bs ++ rs ++ cs) es s in
    let s_rest : Sits whole (at + size handlers body + size handlers rescue + size handlers always) es =
    subst (λ j. Sits whole j es) (omega arith) (sits_right whole at (size handlers body + size handlers rescue + size handlers always) (bs ++ rs ++ cs) es
    (omega (arith, lb, lr, la, length-append (bs ++ rs) cs, length-append bs rs)) s) in
    let s_always : Sits whole (at + size handlers body + size handlers rescue) cs =
    subst (λ j. Sits whole j cs) (omega arith) (sits_right whole at (size handlers body + size handlers rescue) (bs ++ rs) cs (omega (arith, lb, lr, length-append bs rs)) upto) in
    let first = sits_left whole at (bs ++ rs) cs upto in
    let s_rescue = sits_right whole at (size handlers body) bs rs lb first in
    let s_body = sits_left whole at bs rs first in
    let behind = course_right whole handlers (at + size handlers body + size handlers rescue + size handlers always) rest good bad halted s_rest g b d in
    let last = λ (kind : Kind). course_right whole handlers (at + size handlers body + size handlers rescue) always _ _ _ s_always
    (chosen_right look (block_result kind kinds.Good) _ bad halted behind b d) (chosen_right look (block_result kind kinds.Bad) _ bad halted behind b d) (chosen_right look (block_result kind kinds.Halted) _ bad halted behind b d) in
    course_right whole handlers at body _ _ _ s_body (last kinds.Good)
    (rescue_right look (is_empty rescue) _ _ (last kinds.Bad) (course_right whole handlers (at + size handlers body) rescue _ _ _ s_rescue (last kinds.Good) (last kinds.Bad) (last kinds.Halted)))
    (last kinds.Halted) where
      rescue_right : (look : ℕ → Option ℕ) (no_rescue : Bool) (x y : Course) → IsRight look x → IsRight look y → IsRight look (if no_rescue then x else y)
      rescue_right look true x y p q = p
      rescue_right look false x y p q = q
course_right whole handlers at (Flush rest) good bad halted s g b d =
    flush_sits whole at handlers kinds.Ended _ bad halted (sits_left whole at (handlers_from 0 handlers) (handlers_in handlers rest) s)
    (course_right whole handlers (at + handlers) rest good bad halted (sits_right whole at handlers (handlers_from 0 handlers) (handlers_in handlers rest) (length-from 0 handlers) s) g b d) b d

-- the places of the nodes before a last Flush, and those of the Flush
in_front : (handlers : ℕ) (nodes : Nodes) → ends_in_flush nodes ≡ true → handlers_in handlers nodes ≡ handlers_in handlers (front nodes) ++ handlers_from 0 handlers
in_front handlers Nothing e = cc
in_front handlers (Task rest) e = ap (λ x. None ∷ x) (in_front handlers rest e)
in_front handlers (Block body rescue always rest) e =
    let before = handlers_in handlers body ++ handlers_in handlers rescue ++ handlers_in handlers always in
    ap (λ x. before ++ x) (in_front handlers rest e) ∙ sym (append_assoc before (handlers_in handlers (front rest)) (handlers_from 0 handlers))
in_front handlers (Flush Nothing) e = append-nil (handlers_from 0 handlers)
in_front handlers (Flush (Task rest)) e =
    ap (λ x. handlers_from 0 handlers ++ x) (in_front handlers (Task rest) e) ∙ sym (append_assoc (handlers_from 0 handlers) (handlers_in handlers (front (Task rest))) (handlers_from 0 handlers))
in_front handlers (Flush (Block body rescue always rest)) e =
    ap (λ x. handlers_from 0 handlers ++ x) (in_front handlers (Block body rescue always rest) e)
    ∙ sym (append_assoc (handlers_from 0 handlers) (handlers_in handlers (front (Block body rescue always rest))) (handlers_from 0 handlers))
in_front handlers (Flush (Flush rest)) e =
    ap (λ x. handlers_from 0 handlers ++ x) (in_front handlers (Flush rest) e) ∙ sym (append_assoc (handlers_from 0 handlers) (handlers_in handlers (front (Flush rest))) (handlers_from 0 handlers))

sits_whole : (whole : List (Option ℕ)) → Sits whole 0 whole
sits_whole whole = λ i l. ap (λ j. get_or whole j None) (omega arith)

forced_right : (whole : List (Option ℕ)) (handlers : ℕ) (before : Nodes) → Sits whole 0 (handlers_in handlers before ++ handlers_from 0 handlers)
    → IsRight (λ place. get_or whole place None) (forced_course handlers before)
forced_right whole handlers before s =
    let s_last : Sits whole (size handlers before) (handlers_from 0 handlers) =
    subst (λ j. Sits whole j (handlers_from 0 handlers)) (omega arith) (sits_right whole 0 (size handlers before) (handlers_in handlers before) (handlers_from 0 handlers) (length-in handlers before) s) in
    course_right whole handlers 0 before _ _ _ (sits_left whole 0 (handlers_in handlers before) (handlers_from 0 handlers) s)
    (flush_sits whole (size handlers before) handlers kinds.Ended (Ends kinds.Good) (Ends kinds.Bad) (Ends kinds.Halted) s_last tt tt tt)
    (flush_sits whole (size handlers before) handlers kinds.Bad (Ends kinds.Bad) (Ends kinds.Bad) (Ends kinds.Bad) s_last tt tt tt)
    (flush_sits whole (size handlers before) handlers kinds.Halted (Ends kinds.Halted) (Ends kinds.Halted) (Ends kinds.Halted) s_last tt tt tt)

whole_right : (handlers : ℕ) (force ends : Bool) (nodes : Nodes) → ends_in_flush nodes ≡ ends
    → IsRight (λ place. get_or (handlers_in handlers nodes) place None) (if force && ends then forced_course handlers (front nodes) else plain_course handlers nodes)
whole_right handlers true true nodes e =
    forced_right (handlers_in handlers nodes) handlers (front nodes) (subst (Sits (handlers_in handlers nodes) 0) (in_front handlers nodes e) (sits_whole (handlers_in handlers nodes)))
whole_right handlers true false nodes e = course_right (handlers_in handlers nodes) handlers 0 nodes (Ends kinds.Good) (Ends kinds.Bad) (Ends kinds.Halted) (sits_whole (handlers_in handlers nodes)) tt tt tt
whole_right handlers false ends nodes e = course_right (handlers_in handlers nodes) handlers 0 nodes (Ends kinds.Good) (Ends kinds.Bad) (Ends kinds.Halted) (sits_whole (handlers_in handlers nodes)) tt tt tt

tree_right : (tree : TreeOf) → IsRight (handler_at tree) (course_of tree)
tree_right tree = whole_right tree.handlers tree.force_handlers (ends_in_flush tree.nodes) tree.nodes refl

-- ---- a host on its course
next_run_right : (look : ℕ → Option ℕ) (c : Course) (marks : List Bool) → IsRight look c → IsRight look (from_next_run c marks)
next_run_right look (Ends kind) marks r = tt
next_run_right look (Runs place handler over good bad halted) marks r = run_right (is_run handler marks) _ _ r (next_run_right look good marks r.1) where
  run_right : (b : Bool) (x y : Course) → IsRight look x → IsRight look y → IsRight look (if b then x else y)
  run_right true x y p q = p
  run_right false x y p q = q

kind_right : (look : ℕ → Option ℕ) (kind over : Kind) (good bad halted : Course) → IsRight look good → IsRight look bad → IsRight look halted → IsRight look (after_kind kind over good bad halted)
kind_right look kinds.Good over good bad halted g b h = g
kind_right look kinds.Bad over good bad halted g b h = b
kind_right look kinds.Halted over good bad halted g b h = h
kind_right look kinds.Gone over good bad halted g b h = tt
kind_right look kinds.Ended over good bad halted g b h = tt

answered_right : (look : ℕ → Option ℕ) (c : Course) (marks : List Bool) (was : Bool) (a : AnswerOf) → IsRight look c → IsRight look (answered c marks was a).course
answered_right look (Ends kind) marks was a r = tt
answered_right look (Runs place handler over good bad halted) marks was a r =
    next_run_right look (after_kind a.kind over good bad halted) (noted (ran handler a.kind marks) a.notified) (kind_right look a.kind over good bad halted r.1 r.2 r.3)

advanced_right : (look : ℕ → Option ℕ) (second : Bool) (s : Stand) (was : Bool) (a : AnswerOf) → IsRight look s.course → IsRight look (if second then s else answered s.course s.marks was a).course
advanced_right look true s was a r = r
advanced_right look false s was a r = answered_right look s.course s.marks was a r

after_right : (look : ℕ → Option ℕ) (s : Stand) (answers : List AnswerOf) → IsRight look s.course → IsRight look (after s answers).course
after_right look s [] r = r
after_right look s (a ∷ answers) r = after_right look (advanced s a) answers (advanced_right look (s.halted && is_halted a.kind) s (s.halted || is_halted a.kind) a r)

stand_right : (tree : TreeOf) (answers : List AnswerOf) → IsRight (handler_at tree) (stand_of tree answers).course
stand_right tree answers = after_right (handler_at tree) (first_of (course_of tree) tree.handlers) answers (next_run_right (handler_at tree) (course_of tree) (replicate tree.handlers false) (tree_right tree))

-- whether a host was halted
answered_halted : (c : Course) (marks : List Bool) (was : Bool) (a : AnswerOf) → (answered c marks was a).halted ≡ was
answered_halted (Ends kind) marks was a = refl
answered_halted (Runs place handler over good bad halted) marks was a = refl

advanced_halted : (s : Stand) (a : AnswerOf) (was now : Bool) → s.halted ≡ was → (if was && now then s else answered s.course s.marks (was || now) a).halted ≡ (was || now)
advanced_halted s a true true e = e
advanced_halted s a true false e = answered_halted s.course s.marks true a
advanced_halted s a false now e = answered_halted s.course s.marks now a

or_assoc : (a b c : Bool) → ((a || b) || c) ≡ (a || (b || c))
or_assoc true b c = refl
or_assoc false b c = refl

or_nothing : (a : Bool) → a ≡ (a || false)
or_nothing true = refl
or_nothing false = refl

after_halted : (s : Stand) (answers : List AnswerOf) → (after s answers).halted ≡ (s.halted || list_any (λ (a : AnswerOf). is_halted a.kind) answers)
after_halted s [] = or_nothing s.halted
after_halted s (a ∷ answers) =
    after_halted (advanced s a) answers
    ∙ ap (λ b. b || list_any (λ (x : AnswerOf). is_halted x.kind) answers) (advanced_halted s a s.halted (is_halted a.kind) refl)
    ∙ or_assoc s.halted (is_halted a.kind) (list_any (λ (x : AnswerOf). is_halted x.kind) answers)

-- ---- what an answer makes of the marks
abbrev marked_by : List Noted → List Bool → List Bool
marked_by [] marks = marks
marked_by (Notified handlers ∷ rest) marks = marked_by rest (noted marks handlers)
marked_by (Ran handler ∷ rest) marks = marked_by rest (set marks handler false)

marked_after : (n : ℕ) (history more : List Noted) → marked_by more (marks_after n history) ≡ marks_after n (history ++ more)
marked_after n history [] = ap (marks_after n) (sym (append-nil history))
marked_after n history (Notified handlers ∷ more) =
    ap (marked_by more) (notified_marks n history handlers) ∙ marked_after n (history ++ Notified handlers ∷ []) more ∙ ap (marks_after n) (append_assoc history (Notified handlers ∷ []) more)
marked_after n history (Ran handler ∷ more) =
    ap (marked_by more) (ran_marks n history handler) ∙ marked_after n (history ++ Ran handler ∷ []) more ∙ ap (marks_after n) (append_assoc history (Ran handler ∷ []) more)

ran_marked : (handler : Option ℕ) (kind : Kind) (hs : List ℕ) (marks : List Bool) → noted (ran handler kind marks) hs ≡ marked_by (ran_by handler kind ++ Notified hs ∷ []) marks
ran_marked None kind hs marks = refl
ran_marked (Some h) kinds.Good hs marks = refl
ran_marked (Some h) kinds.Bad hs marks = refl
ran_marked (Some h) kinds.Halted hs marks = refl
ran_marked (Some h) kinds.Gone hs marks = refl
ran_marked (Some h) kinds.Ended hs marks = refl

answered_marks : (look : ℕ → Option ℕ) (c : Course) (marks : List Bool) (was : Bool) (a : AnswerOf) → IsRight look c
    → (answered c marks was a).marks ≡ marked_by (happened_at look (reach_of (passage_at c marks)) a) marks
answered_marks look (Ends kinds.Good) marks was a r = refl
answered_marks look (Ends kinds.Bad) marks was a r = refl
answered_marks look (Ends kinds.Halted) marks was a r = refl
answered_marks look (Ends kinds.Gone) marks was a r = refl
answered_marks look (Ends kinds.Ended) marks was a r = refl
answered_marks look (Runs place handler over good bad halted) marks was a r =
    ran_marked handler a.kind a.notified marks ∙ ap (λ h. marked_by (ran_by h a.kind ++ Notified a.notified ∷ []) marks) (sym r.0)

advanced_marks : (look : ℕ → Option ℕ) (s : Stand) (a : AnswerOf) (second was : Bool) → IsRight look s.course
    → (if second then s else answered s.course s.marks was a).marks ≡ marked_by (if not second then happened_at look (reach_at s) a else []) s.marks
advanced_marks look s a true was r = refl
advanced_marks look s a false was r = answered_marks look s.course s.marks was a r

module _ (walks : StandsAreWalks) (on : AnswersLeadOn) where
  one_happened : (tree : TreeOf) (before : List AnswerOf) (a : AnswerOf) → (stand_of tree (before ++ a ∷ [])).marks ≡ marked_by (happened_by tree before a) (stand_of tree before).marks
  one_happened tree before a =
      let s = stand_of tree before in
      let halted : s.halted ≡ list_any (λ (b : AnswerOf). is_halted b.kind) before = after_halted (first_of (course_of tree) tree.handlers) before in
      ap (λ (x : Stand). x.marks) (on tree before a)
      ∙ advanced_marks (handler_at tree) s a (s.halted && is_halted a.kind) (s.halted || is_halted a.kind) (stand_right tree before)
      ∙ ap (λ b. marked_by (if not (b && is_halted a.kind) then happened_at (handler_at tree) (reach_at s) a else []) s.marks) halted
      ∙ ap (λ r. marked_by (if not (list_any (λ (b : AnswerOf). is_halted b.kind) before && is_halted a.kind) then happened_at (handler_at tree) r a else []) s.marks) (walks tree before).reach

  all_happened : (tree : TreeOf) (before answers : List AnswerOf) (history : List Noted) → (stand_of tree before).marks ≡ marks_after tree.handlers history
      → (stand_of tree (before ++ answers)).marks ≡ marks_after tree.handlers (history ++ happened_behind tree before answers)
  all_happened tree before [] history e =
      ap (λ x. (stand_of tree x).marks) (append-nil before) ∙ e ∙ ap (marks_after tree.handlers) (sym (append-nil history))
  all_happened tree before (a ∷ answers) history e =
      ap (λ x. (stand_of tree x).marks) (sym (append_assoc before (a ∷ []) answers))
      ∙ all_happened tree (before ++ a ∷ []) answers (history ++ happened_by tree before a) (one_happened tree before a ∙ ap (marked_by (happened_by tree before a)) e ∙ marked_after tree.handlers history (happened_by tree before a))
      ∙ ap (marks_after tree.handlers) (append_assoc history (happened_by tree before a) (happened_behind tree (before ++ a ∷ []) answers))

  pub marks_noted : MarksAreNotes
  marks_noted tree answers = sym (walks tree answers).marks ∙ all_happened tree [] answers [] (first_marks tree.handlers)

-- ---- the place of a handler ends with its number
abbrev Ending : ℕ → List ℕ → Type 0
Ending h path = (above : List ℕ) × (path ≡ above ++ h ∷ [])

abbrev Pairs : List (Option ℕ) → List (List ℕ) → Type 0
Pairs [] [] = Unit {0}
Pairs [] (p ∷ ps) = ⊥
Pairs (x ∷ xs) [] = ⊥
Pairs (None ∷ xs) (p ∷ ps) = Pairs xs ps
Pairs (Some h ∷ xs) (p ∷ ps) = Ending h p × Pairs xs ps

pairs_append : (xs ys : List (Option ℕ)) (ps qs : List (List ℕ)) → Pairs xs ps → Pairs ys qs → Pairs (xs ++ ys) (ps ++ qs)
pairs_append [] ys [] qs x y = y
pairs_append [] ys (p ∷ ps) qs x y = absurd x
pairs_append (a ∷ xs) ys [] qs x y = absurd x
pairs_append (None ∷ xs) ys (p ∷ ps) qs x y = pairs_append xs ys ps qs x y
pairs_append (Some h ∷ xs) ys (p ∷ ps) qs x y = (x.0, pairs_append xs ys ps qs x.1 y)

pairs_at : (xs : List (Option ℕ)) (ps : List (List ℕ)) (i h : ℕ) → Pairs xs ps → get_or xs i None ≡ Some h → (above : List ℕ) × (slice_get ps i ≡ Some (above ++ h ∷ []))
pairs_at [] ps i h x e = cc
pairs_at (a ∷ xs) [] i h x e = absurd x
pairs_at (None ∷ xs) (p ∷ ps) zero h x e = cc
pairs_at (None ∷ xs) (p ∷ ps) (suc i) h x e = pairs_at xs ps i h x e
pairs_at (Some k ∷ xs) (p ∷ ps) zero h x e = (x.0.0, ap (λ q. Some q) (x.0.1 ∙ ap (λ j. x.0.0 ++ j ∷ []) cc))
pairs_at (Some k ∷ xs) (p ∷ ps) (suc i) h x e = pairs_at xs ps i h x.1 e

pairs_from : (path : List ℕ) (h n : ℕ) → Pairs (handlers_from h n) (handler_paths path h n)
pairs_from path h zero = tt
pairs_from path h (suc n) = ((path, refl), pairs_from path (h + 1) n)

pairs_in : (handlers : ℕ) (path : List ℕ) (i : ℕ) (nodes : Nodes) → Pairs (handlers_in handlers nodes) (paths_from handlers path i nodes)
pairs_in handlers path i Nothing = tt
pairs_in handlers path i (Task rest) = pairs_in handlers path (i + 1) rest
pairs_in handlers path i (Block body rescue always rest) =
    let bs = handlers_in handlers body in let rs = handlers_in handlers rescue in let cs = handlers_in handlers always in
    let body_at = path ++ i ∷ 0 ∷ [] in let rescue_at = path ++ i ∷ 1 ∷ [] in let always_at = path ++ i ∷ 2 ∷ [] in
    let ps = paths_from handlers body_at 0 body in let qs = paths_from handlers rescue_at 0 rescue in let us = paths_from handlers always_at 0 always in
    pairs_append (bs ++ rs ++ cs) (handlers_in handlers rest) (ps ++ qs ++ us) (paths_from handlers path (i + 1) rest)
    (pairs_append (bs ++ rs) cs (ps ++ qs) us (pairs_append bs rs ps qs (pairs_in handlers body_at 0 body) (pairs_in handlers rescue_at 0 rescue)) (pairs_in handlers always_at 0 always))
    (pairs_in handlers path (i + 1) rest)
pairs_in handlers path i (Flush rest) =
    pairs_append (handlers_from 0 handlers) (handlers_in handlers rest) (handler_paths (path ++ i ∷ []) 0 handlers) (paths_from handlers path (i + 1) rest)
    (pairs_from (path ++ i ∷ []) 0 handlers) (pairs_in handlers path (i + 1) rest)

pub handlers_end : HandlersEndPlaces
handlers_end tree place handler e =
    let p = pairs_at (handlers_in tree.handlers tree.nodes) (paths_from tree.handlers [] 0 tree.nodes) place handler (pairs_in tree.handlers [] 0 tree.nodes) e in
    record { above = p.0; path = p.1 }
