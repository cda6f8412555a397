-- Marks beside the history that leads to them.
use Rattle.std.proofs.Common.{◌≡◌, ℕ, zero, suc, ◌+◌, ◌<◌, ◌≤◌, Bool, true, false, List, [], ◌∷◌, ◌++◌, length, get_or, set, drop, replicate, nat_eq, inl, inr, refl, sym, ap, subst, ◌∙◌, arith}
use Rattle.std.specs.Prelude.{◌&&◌, ◌||◌, not}
use Rattle.std.specs.List.{list_any}
use Rattle.std.proofs.lemmas.Bool.{cases_eq}
use Rattle.std.proofs.lemmas.Bool.Decides.{nat_tests}
use Rattle.std.proofs.lemmas.List.{get_or-set_same, get_or-set_other, length-set, ext_get_or, get_or-replicate, length-replicate, drop_all, append-nil}
use Rattle.std.proofs.lemmas.List.FromFn.{length-map-range_with_len, get_or-map-range_with_len}
use Rattle.std.proofs.lemmas.List.Folds.{list_any-append}
use Rattle.pb_tree.specs.Walk.{noted}
use Rattle.pb_handlers.specs.Pending.{Noted, Notified, Ran, is_among, notifies, runs, is_pending, IsPending, marks_after}

-- ---- marks as lists
pub length-noted : (hs : List ℕ) (marks : List Bool) → length (noted marks hs) ≡ length marks
length-noted [] marks = refl
length-noted (h ∷ hs) marks = length-noted hs (set marks h true) ∙ length-set marks h true

or_swap : (a b c : Bool) → ((a || b) || c) ≡ (a || (b || c))
or_swap true b c = refl
or_swap false b c = refl

pub same_number : (k : ℕ) → nat_eq k k ≡ true
same_number k = grind (arith, nat_tests)

pub other_number : (k h : ℕ) → (k ≡ h → ⊥) → nat_eq k h ≡ false
other_number k h apart = grind (arith, nat_tests)

pub next_number : (k h : ℕ) → nat_eq (suc k) (suc h) ≡ nat_eq k h
next_number k h = grind (arith, nat_tests)

or_false : (a : Bool) → a ≡ (a || false)
or_false true = refl
or_false false = refl

and_true : (a : Bool) → a ≡ (a && true)
and_true true = refl
and_true false = refl

or_true : (a : Bool) → (a || true) ≡ true
or_true true = refl
or_true false = refl

and_false : (a : Bool) → (a && false) ≡ false
and_false true = refl
and_false false = refl

set_at : (marks : List Bool) (h k : ℕ) → k < length marks → get_or (set marks h true) k false ≡ (get_or marks k false || nat_eq k h)
set_at marks h k l = elim (cases_eq k h) [
  | inl e ↦ rw (← e) (get_or-set_same marks k true false l ∙ sym (ap (λ b. get_or marks k false || b) (same_number k) ∙ or_true (get_or marks k false)))
  | inr f ↦ get_or-set_other marks h k true false f ∙ or_false (get_or marks k false) ∙ sym (ap (λ b. get_or marks k false || b) (other_number k h f))
]

unset_at : (marks : List Bool) (h k : ℕ) → k < length marks → get_or (set marks h false) k false ≡ (get_or marks k false && not (nat_eq k h))
unset_at marks h k l = elim (cases_eq k h) [
  | inl e ↦ rw (← e) (get_or-set_same marks k false false l ∙ sym (ap (λ b. get_or marks k false && not b) (same_number k) ∙ and_false (get_or marks k false)))
  | inr f ↦ get_or-set_other marks h k false false f ∙ and_true (get_or marks k false) ∙ sym (ap (λ b. get_or marks k false && not b) (other_number k h f))
]

pub noted_at : (hs : List ℕ) (marks : List Bool) (k : ℕ) → k < length marks → get_or (noted marks hs) k false ≡ (get_or marks k false || is_among k hs)
noted_at [] marks k l = or_false (get_or marks k false)
noted_at (h ∷ hs) marks k l =
    noted_at hs (set marks h true) k (omega (arith, l, length-set marks h true))
    ∙ ap (λ b. b || is_among k hs) (set_at marks h k l) ∙ or_swap (get_or marks k false) (nat_eq k h) (is_among k hs)

-- one mark more is taken away
unmarked_more : (marks : List Bool) (i : ℕ) → i < length marks → set (replicate i false ++ drop i marks) i false ≡ replicate (suc i) false ++ drop (suc i) marks
unmarked_more [] i l = absurd (omega (arith, l))
unmarked_more (m ∷ marks) zero l = refl
unmarked_more (m ∷ marks) (suc i) l = ap (λ x. false ∷ x) (unmarked_more marks i (omega (arith, l)))

pub one_unmarked : (marks now : List Bool) (i : ℕ) → i < length marks → now ≡ replicate i false ++ drop i marks → set now i false ≡ replicate (i + 1) false ++ drop (i + 1) marks
one_unmarked marks now i l e =
    let next : suc i ≡ i + 1 = omega arith in
    subst (λ j. set now i false ≡ replicate j false ++ drop j marks) next (ap (λ x. set x i false) e ∙ unmarked_more marks i l)

pub all_unmarked : (marks now : List Bool) (i : ℕ) → length marks ≤ i → i ≤ length marks → now ≡ replicate i false ++ drop i marks → now ≡ replicate (length marks) false
all_unmarked marks now i l m e =
    e ∙ ap (λ x. replicate i false ++ x) (drop_all i marks l) ∙ append-nil (replicate i false) ∙ (let same : i ≡ length marks = omega (arith, l, m) in ap (λ j. replicate j false) same)

-- ---- one thing more in a history
pending_and : (a p q b : Bool) → ((a && not (p || q)) || (b && not q)) ≡ (((a && not p) || b) && not q)
pending_and true true true true = refl
pending_and true true true false = refl
pending_and true true false true = refl
pending_and true true false false = refl
pending_and true false true true = refl
pending_and true false true false = refl
pending_and true false false true = refl
pending_and true false false false = refl
pending_and false p true true = refl
pending_and false p true false = refl
pending_and false p false true = refl
pending_and false p false false = refl

pending_or : (a p b c : Bool) → ((a && not (p || false)) || (b || c)) ≡ (((a && not p) || b) || c)
pending_or true true b c = refl
pending_or true false b c = refl
pending_or false p b c = refl

pub notified_more : (handler : ℕ) (handlers : List ℕ) (history : List Noted) → is_pending handler (history ++ Notified handlers ∷ []) ≡ (is_pending handler history || is_among handler handlers)
notified_more handler handlers [] = last (is_among handler handlers) where
  last : (a : Bool) → ((a && true) || false) ≡ a
  last true = refl
  last false = refl
notified_more handler handlers (noted ∷ later) =
    rw (list_any-append (runs handler) later (Notified handlers ∷ []), notified_more handler handlers later)
    (pending_or (notifies handler noted) (list_any (runs handler) later) (is_pending handler later) (is_among handler handlers))

pub ran_more : (handler ran : ℕ) (history : List Noted) → is_pending handler (history ++ Ran ran ∷ []) ≡ (is_pending handler history && not (nat_eq handler ran))
ran_more handler ran [] = refl
ran_more handler ran (noted ∷ later) =
    rw (list_any-append (runs handler) later (Ran ran ∷ []), ran_more handler ran later)
    (ran_last (notifies handler noted) (list_any (runs handler) later) (nat_eq handler ran) (is_pending handler later)) where
      ran_last : (a p q b : Bool) → ((a && not (p || (q || false))) || (b && not q)) ≡ (((a && not p) || b) && not q)
      ran_last a p true b = pending_and a p true b
      ran_last a p false b = pending_and a p false b

-- ---- the marks of a history
pub length-marks : (n : ℕ) (history : List Noted) → length (marks_after n history) ≡ n
length-marks n history = length-map-range_with_len (λ handler. is_pending handler history) 0 n

pub mark_at : (n k : ℕ) (history : List Noted) → k < n → get_or (marks_after n history) k false ≡ is_pending k history
mark_at n k history l = get_or-map-range_with_len (λ handler. is_pending handler history) 0 n k k false l (omega arith)

pub first_marks : (n : ℕ) → replicate n false ≡ marks_after n []
first_marks n =
    ext_get_or false (replicate n false) (marks_after n []) (length-replicate n false ∙ sym (length-marks n []))
    (λ k l. let e = length-replicate n false in get_or-replicate n k false false (omega (arith, l, e)) ∙ sym (mark_at n k [] (omega (arith, l, e))))

pub notified_marks : (n : ℕ) (history : List Noted) (handlers : List ℕ) → noted (marks_after n history) handlers ≡ marks_after n (history ++ Notified handlers ∷ [])
notified_marks n history handlers =
    let long = length-noted handlers (marks_after n history) ∙ length-marks n history in
    ext_get_or false (noted (marks_after n history) handlers) (marks_after n (history ++ Notified handlers ∷ []))
    (long ∙ sym (length-marks n (history ++ Notified handlers ∷ [])))
    (λ k l. noted_at handlers (marks_after n history) k (omega (arith, l, length-noted handlers (marks_after n history)))
    ∙ ap (λ b. b || is_among k handlers) (mark_at n k history (omega (arith, l, long)))
    ∙ sym (mark_at n k (history ++ Notified handlers ∷ []) (omega (arith, l, long)) ∙ notified_more k handlers history))

pub ran_marks : (n : ℕ) (history : List Noted) (ran : ℕ) → set (marks_after n history) ran false ≡ marks_after n (history ++ Ran ran ∷ [])
ran_marks n history ran =
    let long = length-set (marks_after n history) ran false ∙ length-marks n history in
    ext_get_or false (set (marks_after n history) ran false) (marks_after n (history ++ Ran ran ∷ []))
    (long ∙ sym (length-marks n (history ++ Ran ran ∷ [])))
    (λ k l. unset_at (marks_after n history) ran k (omega (arith, l, length-set (marks_after n history) ran false))
    ∙ ap (λ b. b && not (nat_eq k ran)) (mark_at n k history (omega (arith, l, long)))
    ∙ sym (mark_at n k (history ++ Ran ran ∷ []) (omega (arith, l, long)) ∙ ran_more k ran history))

pub cleared_marks : (n : ℕ) (history : List Noted) → replicate (length (marks_after n history)) false ≡ marks_after n []
cleared_marks n history = rw (length-marks n history) (first_marks n)

-- ---- what is computed is the relation
one_further : (handler : ℕ) (noted : Noted) (later : List Noted) → IsPending handler later → IsPending handler (noted ∷ later)
one_further handler noted later p =
    record { before = noted ∷ p.before; handlers = p.handlers; since = p.since; parts = ap (λ x. noted ∷ x) p.parts; notified = p.notified; still = p.still }

notified_here : (handler : ℕ) (handlers : List ℕ) (later : List Noted) (a p rest : Bool) → is_among handler handlers ≡ a → list_any (runs handler) later ≡ p
    → (rest ≡ true → IsPending handler later) → ((a && not p) || rest) ≡ true → IsPending handler (Notified handlers ∷ later)
notified_here handler handlers later true false rest f g behind e = record { before = []; handlers = handlers; since = later; parts = refl; notified = f; still = g }
notified_here handler handlers later true true rest f g behind e = one_further handler (Notified handlers) later (behind e)
notified_here handler handlers later false p rest f g behind e = one_further handler (Notified handlers) later (behind e)

pub pending_means : (handler : ℕ) (history : List Noted) → is_pending handler history ≡ true → IsPending handler history
pending_means handler [] e = cc
pending_means handler (Notified handlers ∷ later) e =
    notified_here handler handlers later (is_among handler handlers) (list_any (runs handler) later) (is_pending handler later) refl refl (pending_means handler later) e
pending_means handler (Ran ran ∷ later) e = one_further handler (Ran ran) later (pending_means handler later e)

parts_pending : (handler : ℕ) (before : List Noted) (handlers : List ℕ) (since : List Noted) → is_among handler handlers ≡ true → list_any (runs handler) since ≡ false
    → is_pending handler (before ++ Notified handlers ∷ since) ≡ true
parts_pending handler [] handlers since e f = rw (e, f) refl
parts_pending handler (noted ∷ before) handlers since e f =
    rw (parts_pending handler before handlers since e f) (or_true (notifies handler noted && not (list_any (runs handler) (before ++ Notified handlers ∷ since))))

pub means_pending : (handler : ℕ) (history : List Noted) → IsPending handler history → is_pending handler history ≡ true
means_pending handler history p = ap (is_pending handler) p.parts ∙ parts_pending handler p.before p.handlers p.since p.notified p.still
