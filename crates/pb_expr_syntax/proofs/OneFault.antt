-- A text has one first fault: no two faults are the first one of the same text, and a text with a tree has none.
use Rattle.std.proofs.Common.{◌≡◌, ◌≢◌, ℕ, ◌≤◌, ◌++◌, ◌⊎◌, inl, inr, false, true, List, [], ◌∷◌, Some, None, refl, sym, ◌∙◌, ap, subst, length, append_assoc, arith}
use Rattle.std.specs.Prelude.{Result, Ok}
use Rattle.pb_expr_syntax.specs.declared.fault.ExprFault.{ExprFault}
use Rattle.pb_expr_syntax.specs.declared.fault.ExprFault.TheVariants as fault
use Rattle.pb_expr_syntax.specs.declared.grammar.Make.TheVariants as make
use Rattle.pb_expr_syntax.specs.declared.grammar.Symbol.{Symbol}
use Rattle.pb_expr_syntax.specs.declared.grammar.Symbol.TheVariants.{Take, Go, Do}
use Rattle.pb_expr_syntax.specs.declared.parser.Refusal.{Refusal}
use Rattle.pb_expr_syntax.specs.declared.parser.Refusal.TheVariants.{Unexpected, End, Memory}
use Rattle.pb_expr_syntax.specs.Choice.{choice}
use Rattle.pb_expr_syntax.specs.Grammar as grammar
use Rattle.pb_expr_syntax.specs.Grammar.{Tok, Part, One, Many, Called, Reads, Spells, IsSole, CanEnd, IsWrong, begin, Begins, WrongCall, IsStuck, rules, nth, made, makes}
use Rattle.pb_expr_syntax.specs.Spelling.{FirstFault, fault_of}
use Rattle.pb_expr_syntax.specs.Tokens.{tokens_of}
use Rattle.pb_expr_syntax.specs.Tree.{Tree}
use Rattle.pb_expr_syntax.specs.Views.{Faults, Names, Points, Refuses}
use Rattle.pb_expr_syntax.proofs.Calls.{go_none, wrong_none}
use Rattle.pb_expr_syntax.proofs.Leads.{Good, good_begin, good_go, choice_is, makes_too}
use Rattle.pb_expr_syntax.proofs.Parsed.{nothing_more}

-- what begins an expression can end
can_end : {ss : List Symbol} {ts : List Tok} {vs : List Part} → Reads false CanEnd ss ts vs → CanEnd ss vs
can_end (grammar.done left) = left
can_end (grammar.take {t = t} e w reads) = let end = can_end reads in (t ∷ end.0, end.1, grammar.take e w end.2)
can_end (grammar.go place a is reads) = let end = can_end reads in (end.0, end.1, grammar.go place a is end.2)
can_end (grammar.do_make {m} {vs = vs} {ws = ws} w reads) = let end = can_end reads in (end.0, end.1, grammar.do_make (makes_too true m vs ws w) end.2)

-- so does each front of it
front_reads : (front rest all : List Tok) (ss : List Symbol) (vs : List Part) → all ≡ front ++ rest → Reads false CanEnd ss all vs → Reads false CanEnd ss front vs
front_reads [] rest all ss vs e reads = grammar.done (can_end reads)
front_reads (x ∷ front) rest all ss vs e (grammar.done left) = cc
front_reads (x ∷ front) rest all ss vs e (grammar.take {k} {how} {ss = tail} {t} {ts} {ws = ws} is w reads) =
    let same : x ≡ t = cc in
    let others : ts ≡ front ++ rest = cc in
    subst (λ y. Reads false CanEnd (Take k how ∷ tail) (y ∷ front) vs) (sym same) (grammar.take is w (front_reads front rest ts tail ws others reads))
front_reads (x ∷ front) rest all ss vs e (grammar.go {ss = tail} place a is reads) = grammar.go place a is (front_reads (x ∷ front) rest all (a ++ tail) vs e reads)
front_reads (x ∷ front) rest all ss vs e (grammar.do_make {ss = tail} {ws = ws} w reads) = grammar.do_make w (front_reads (x ∷ front) rest all tail ws e reads)

begins_front : (front rest : List Tok) → Begins (front ++ rest) → Begins front
begins_front front rest reads = front_reads front rest (front ++ rest) begin [] refl reads

sole_can_end : {t : Tree} {ss : List Symbol} {vs : List Part} → IsSole t ss vs → CanEnd ss vs
sole_can_end {t} left = ([], t, grammar.done left)

-- what spells a tree begins one
spells_begins : {t : Tree} {ss : List Symbol} {ts : List Tok} {vs : List Part} → Reads false (IsSole t) ss ts vs → Reads false CanEnd ss ts vs
spells_begins (grammar.done left) = grammar.done (sole_can_end left)
spells_begins (grammar.take e w reads) = grammar.take e w (spells_begins reads)
spells_begins (grammar.go place a is reads) = grammar.go place a is (spells_begins reads)
spells_begins (grammar.do_make w reads) = grammar.do_make w (spells_begins reads)

-- no front that is stuck lies within one that begins an expression
not_longer : (front rest more : List Tok) (t : Tok) → IsStuck front (t ∷ rest) → Begins (front ++ t ∷ more) → ⊥
not_longer front rest more t stuck begins = stuck (begins_front (front ++ t ∷ []) more (subst Begins (sym (append_assoc front (t ∷ []) more)) begins))

-- two fronts of the same tokens are one, or one is longer
abbrev Splits : List Tok → List Tok → List Tok → List Tok → Type 0
Splits a x b y = ((a ≡ b) × (x ≡ y)) ⊎ ((t : Tok) × (us : List Tok) × (more : List Tok) × (x ≡ t ∷ us) × (b ≡ a ++ t ∷ more)) ⊎ ((t : Tok) × (us : List Tok) × (more : List Tok) × (y ≡ t ∷ us) × (a ≡ b ++ t ∷ more))

splits : (a x b y : List Tok) → a ++ x ≡ b ++ y → Splits a x b y
splits [] x [] y e = inl (refl, e)
splits [] x (t ∷ b) y e = inr (inl (t, b ++ y, b, e, refl))
splits (t ∷ a) x [] y e = inr (inr (t, a ++ x, a, sym e, refl))
splits (t ∷ a) x (u ∷ b) y e =
    let same : t ≡ u = cc in
    let others : a ++ x ≡ b ++ y = cc in
    elim (splits a x b y others) [
      | inl both ↦ inl (cons_same t u a b same both.0, both.1)
      | inr (inl h) ↦ inr (inl (h.0, h.1, h.2, h.3, cons_same u t b (a ++ h.0 ∷ h.2) (sym same) h.4))
      | inr (inr h) ↦ inr (inr (h.0, h.1, h.2, h.3, cons_same t u a (b ++ h.0 ∷ h.2) same h.4))
    ]
  where
    cons_same : (t u : Tok) (a b : List Tok) → t ≡ u → a ≡ b → t ∷ a ≡ u ∷ b
    cons_same t u a b p q = λ i. p i ∷ q i

-- one front, and what stands behind it
one_front : (tokens a x b y : List Tok) → tokens ≡ a ++ x → tokens ≡ b ++ y → Begins a → Begins b → IsStuck a x → IsStuck b y → (a ≡ b) × (x ≡ y)
one_front tokens a x b y p q begins_a begins_b stuck_a stuck_b = elim (splits a x b y (sym p ∙ q)) [
  | inl both ↦ both
  | inr (inl h) ↦ absurd (not_longer a h.1 h.2 h.0 (subst (IsStuck a) h.3 stuck_a) (subst Begins h.4 begins_b))
  | inr (inr h) ↦ absurd (not_longer b h.1 h.2 h.0 (subst (IsStuck b) h.3 stuck_b) (subst Begins h.4 begins_a))
]

wrong_same : (m n : ℕ) (ss : List Symbol) (vs : List Part) → IsWrong m ss vs → IsWrong n ss vs → m ≡ n
wrong_same m n (Do make.Filtered ∷ ss) (Many xs ∷ Called f name ∷ One x ∷ vs) p q = sym p.0 ∙ q.0
wrong_same m n _ _ p q = absurd p

-- no two wrong calls end the same tokens: first where no token is left
same_now : (m n : ℕ) (ss : List Symbol) (vs : List Part) → Reads false (IsWrong m) ss [] vs → Reads false (IsWrong n) ss [] vs → m ≡ n
same_now m n ss vs (grammar.done p) (grammar.done q) = wrong_same m n ss vs p q
same_now m n (Do k ∷ ss) vs (grammar.done p) (grammar.do_make {ws = ws} w reads) = let none : made k vs ≡ None = wrong_none m k ss vs p in cc
same_now m n (Do k ∷ ss) vs (grammar.do_make {ws = ws} w reads) (grammar.done q) = let none : made k vs ≡ None = wrong_none n k ss vs q in cc
same_now m n (Do k ∷ ss) vs (grammar.do_make {ws = us} v first) (grammar.do_make {ws = ws} w second) =
    let same : ws ≡ us = cc in
    same_now m n ss us first (subst (Reads false (IsWrong n) ss []) same second)
same_now m n (Go r ∷ ss) vs (grammar.done p) (grammar.go place a is reads) = absurd p
same_now m n (Go r ∷ ss) vs (grammar.go place a is reads) (grammar.done q) = absurd q
same_now m n (Go r ∷ ss) vs (grammar.go place a is first) (grammar.go place' b is' second) =
    let none : a ≡ [] = go_none m r ss a vs place is first in
    let none' : b ≡ [] = go_none n r ss b vs place' is' second in
    same_now m n (a ++ ss) vs first (subst (λ q. Reads false (IsWrong n) (q ++ ss) [] vs) (none' ∙ sym none) second)

-- and then where tokens are
same_call : (m n : ℕ) (ss : List Symbol) (ts : List Tok) (vs : List Part) → Good ss → Reads false (IsWrong m) ss ts vs → Reads false (IsWrong n) ss ts vs → m ≡ n
same_call m n ss [] vs good first second = same_now m n ss vs first second
same_call m n [] (t ∷ ts) vs good first second = elim first [ ]
same_call m n (Take k how ∷ ss) (t ∷ ts) vs good (grammar.take {ws = us} e v first) (grammar.take {ws = ws} d w second) =
    let same : ws ≡ us = cc in
    same_call m n ss ts us good first (subst (Reads false (IsWrong n) ss ts) same second)
same_call m n (Go r ∷ ss) (t ∷ ts) vs good (grammar.go place a is first) (grammar.go place' b is' second) =
    let at_a : nth (rules r) (choice r (Some t.kind)) ≡ Some a = choice_is r ss a (t ∷ ts) vs place tt good is first in
    let at_b : nth (rules r) (choice r (Some t.kind)) ≡ Some b = choice_is r ss b (t ∷ ts) vs place' tt good is' second in
    let same : b ≡ a = cc in
    same_call m n (a ++ ss) (t ∷ ts) vs (good_go r ss a place is good) first (subst (λ q. Reads false (IsWrong n) (q ++ ss) (t ∷ ts) vs) same second)
same_call m n (Do k ∷ ss) (t ∷ ts) vs good (grammar.do_make {ws = us} v first) (grammar.do_make {ws = ws} w second) =
    let same : ws ≡ us = cc in
    same_call m n ss (t ∷ ts) us good first (subst (Reads false (IsWrong n) ss (t ∷ ts)) same second)

one_point : (d e : Refusal) (rest : List Tok) → Points d rest → Points e rest → d ≡ e
one_point (Unexpected m) e [] p q = absurd p
one_point (Unexpected m) (Unexpected n) (t ∷ ts) p q = ap Unexpected (p ∙ sym q)
one_point (Unexpected m) End (t ∷ ts) p q = absurd q
one_point (Unexpected m) Memory (t ∷ ts) p q = absurd q
one_point End (Unexpected n) [] p q = absurd q
one_point End End [] p q = refl
one_point End Memory [] p q = absurd q
one_point End e (t ∷ ts) p q = absurd p
one_point Memory e rest p q = absurd p

one_name : (d e : Refusal) (front rest : List Tok) → Names d front rest → Names e front rest → d ≡ e
one_name d e front rest (inl p) (inl q) = p.1 ∙ ap Unexpected (same_call p.0 q.0 begin front [] good_begin p.2 q.2) ∙ sym q.1
one_name d e front rest (inl p) (inr q) = absurd (q.0 p.0 p.2)
one_name d e front rest (inr p) (inl q) = absurd (p.0 q.0 q.2)
one_name d e front rest (inr p) (inr q) = one_point d e rest p.1 q.1

pub one_refusal : (tokens : List Tok) (d e : Refusal) → Refuses tokens d → Refuses tokens e → d ≡ e
one_refusal tokens d e p q =
    let same = one_front tokens p.0 p.1 q.0 q.1 p.2 q.2 p.3 q.3 p.4 q.4 in
    one_name d e p.0 p.1 p.5 (subst (λ x. Names e p.0 x) (sym same.1) (subst (λ a. Names e a q.1) (sym same.0) q.5))

-- tokens that are refused spell nothing
pub refused_none : (tokens : List Tok) (e : Refusal) (t : Tree) → Refuses tokens e → Spells tokens t → ⊥
refused_none tokens e t r reads = by_rest r.1 r.2 r.4
  where
    by_rest : (rest : List Tok) → tokens ≡ r.0 ++ rest → IsStuck r.0 rest → ⊥
    by_rest [] is stuck = stuck t (subst (λ ts. Spells ts t) (is ∙ nothing_more r.0) reads)
    by_rest (u ∷ us) is stuck = not_longer r.0 us us u stuck (subst Begins is (spells_begins reads))

same_tokens : (text : List ℕ) (a b : List Tok) → tokens_of text ≡ Ok a → tokens_of text ≡ Ok b → a ≡ b
same_tokens text a b p q = let same : ◌≡◌ {A = Result (List Tok) ExprFault} (Ok a) (Ok b) = sym p ∙ q in cc

-- the law: a text has no two first faults
pub one_fault : (text : List ℕ) (d e : ExprFault) → FirstFault text d → FirstFault text e → d ≡ e
one_fault text d e (inl p) (inl q) = p.1 ∙ sym q.1
one_fault text d e (inl p) (inr (inl q)) = let a = p.0 in let b = q.0 in absurd (omega arith)
one_fault text d e (inl p) (inr (inr (inl q))) = let a = p.0 in let b = q.0 in absurd (omega arith)
one_fault text d e (inl p) (inr (inr (inr q))) = let a = p.0 in let b = q.0 in absurd (omega arith)
one_fault text d e (inr (inl p)) (inl q) = let a = p.0 in let b = q.0 in absurd (omega arith)
one_fault text d e (inr (inl p)) (inr (inl q)) = let a = p.1 in let b = q.1 in cc
one_fault text d e (inr (inl p)) (inr (inr (inl q))) = let a = p.1 in let b = q.2 in cc
one_fault text d e (inr (inl p)) (inr (inr (inr q))) = let a = p.1 in let b = q.2 in cc
one_fault text d e (inr (inr (inl p))) (inl q) = let a = p.0 in let b = q.0 in absurd (omega arith)
one_fault text d e (inr (inr (inl p))) (inr (inl q)) = let a = p.2 in let b = q.1 in cc
one_fault text d e (inr (inr (inl p))) (inr (inr (inl q))) =
    p.5 ∙ ap fault_of (one_refusal p.1 p.3 q.3 p.4 (subst (λ ts. Refuses ts q.3) (same_tokens text q.1 p.1 q.2 p.2) q.4)) ∙ sym q.5
one_fault text d e (inr (inr (inl p))) (inr (inr (inr q))) = absurd (refused_none p.1 p.3 q.3 p.4 (subst (λ ts. Spells ts q.3) (same_tokens text q.1 p.1 q.2 p.2) q.4))
one_fault text d e (inr (inr (inr p))) (inl q) = let a = p.0 in let b = q.0 in absurd (omega arith)
one_fault text d e (inr (inr (inr p))) (inr (inl q)) = let a = p.2 in let b = q.1 in cc
one_fault text d e (inr (inr (inr p))) (inr (inr (inl q))) = absurd (refused_none q.1 q.3 p.3 q.4 (subst (λ ts. Spells ts p.3) (same_tokens text p.1 q.1 p.2 q.2) p.4))
one_fault text d e (inr (inr (inr p))) (inr (inr (inr q))) = p.6 ∙ sym q.6

-- a parser's fault is the first one of the text
pub first_refused : (text : List ℕ) (tokens : List Tok) (refused : Refusal) → length text ≤ 4096 → tokens_of text ≡ Ok tokens → Faults refused (Refuses tokens refused) → fault_of refused ≢ fault.Memory → FirstFault text (fault_of refused)
first_refused text tokens (Unexpected at) le is r known = inr (inr (inl (le, tokens, is, Unexpected at, r, refl)))
first_refused text tokens End le is r known = inr (inr (inl (le, tokens, is, End, r, refl)))
first_refused text tokens Memory le is r known = absurd (known refl)
