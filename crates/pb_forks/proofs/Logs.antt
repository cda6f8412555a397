-- Lists of entries, of jobs and of reports.
use Rattle.std.proofs.Common.{◌≡◌, ◌≢◌, ℕ, ◌+◌, ◌%◌, ◌^◌, ◌<◌, ◌≤◌, Bool, true, false, cond, eqb, List, [], ◌∷◌, ◌++◌, refl, sym, ap, arith, eq-eqb, ne_eqb}
use Rattle.pb_outcome.specs.declared.job.Job.{Job}
use Rattle.pb_outcome.specs.declared.job.Report.{Report}
use Rattle.pb_outcome.specs.declared.outcome.Form.{Form}
use Rattle.pb_forks.specs.declared.views.Entry.{Entry}
use Rattle.pb_forks.specs.declared.views.Entry.TheVariants.{Offered, Collected}
use Rattle.pb_forks.specs.Logs.{offers_of, collects_of, IsAbove, Rises, Fits, Answered}
use Rattle.pb_forks.specs.Rule.{Phase, idle, offered, taken, answered, shut, word_of}

snoc_if : {A : Type 0} (b : Bool) (y x : A) (ls ms : List A) → ls ≡ ms ++ x ∷ [] → cond b (y ∷ ls) ls ≡ cond b (y ∷ ms) ms ++ x ∷ []
snoc_if true y x ls ms e = ap (λ l. y ∷ l) e
snoc_if false y x ls ms e = e

-- of another fork
pub offers-other : (j f : ℕ) (x : Job) (es : List Entry) → j ≢ f → offers_of j (es ++ Offered f x ∷ []) ≡ offers_of j es
offers-other j f x [] ne = ap (λ b. cond b (x ∷ []) []) (ne_eqb f j (λ e. ne (sym e)))
offers-other j f x (Offered g y ∷ es) ne = ap (λ l. cond (eqb g j) (y ∷ l) l) (offers-other j f x es ne)
offers-other j f x (Collected g r ∷ es) ne = offers-other j f x es ne

pub offers-here : (j : ℕ) (x : Job) (es : List Entry) → offers_of j (es ++ Offered j x ∷ []) ≡ offers_of j es ++ x ∷ []
offers-here j x [] = ap (λ b. cond b (x ∷ []) []) (eq-eqb j j refl)
offers-here j x (Offered g y ∷ es) = snoc_if (eqb g j) y x _ _ (offers-here j x es)
offers-here j x (Collected g r ∷ es) = offers-here j x es

pub offers-collected : (j f : ℕ) (r : Report) (es : List Entry) → offers_of j (es ++ Collected f r ∷ []) ≡ offers_of j es
offers-collected j f r [] = refl
offers-collected j f r (Offered g y ∷ es) = ap (λ l. cond (eqb g j) (y ∷ l) l) (offers-collected j f r es)
offers-collected j f r (Collected g q ∷ es) = offers-collected j f r es

pub collects-other : (j f : ℕ) (r : Report) (es : List Entry) → j ≢ f → collects_of j (es ++ Collected f r ∷ []) ≡ collects_of j es
collects-other j f r [] ne = ap (λ b. cond b (r ∷ []) []) (ne_eqb f j (λ e. ne (sym e)))
collects-other j f r (Collected g q ∷ es) ne = ap (λ l. cond (eqb g j) (q ∷ l) l) (collects-other j f r es ne)
collects-other j f r (Offered g y ∷ es) ne = collects-other j f r es ne

pub collects-here : (j : ℕ) (r : Report) (es : List Entry) → collects_of j (es ++ Collected j r ∷ []) ≡ collects_of j es ++ r ∷ []
collects-here j r [] = ap (λ b. cond b (r ∷ []) []) (eq-eqb j j refl)
collects-here j r (Collected g q ∷ es) = snoc_if (eqb g j) q r _ _ (collects-here j r es)
collects-here j r (Offered g y ∷ es) = collects-here j r es

pub collects-offered : (j f : ℕ) (x : Job) (es : List Entry) → collects_of j (es ++ Offered f x ∷ []) ≡ collects_of j es
collects-offered j f x [] = refl
collects-offered j f x (Collected g q ∷ es) = ap (λ l. cond (eqb g j) (q ∷ l) l) (collects-offered j f x es)
collects-offered j f x (Offered g y ∷ es) = collects-offered j f x es

pub rises-collected : (low f : ℕ) (r : Report) (es : List Entry) → Rises low es → Rises low (es ++ Collected f r ∷ [])
rises-collected low f r [] h = tt
rises-collected low f r (Offered g y ∷ es) h = (h.0, h.1, rises-collected (y.ticket.0 + 1) f r es h.2)
rises-collected low f r (Collected g q ∷ es) h = rises-collected low f r es h

pub rises-offered : (low f : ℕ) (x : Job) (es : List Entry) → low ≤ x.ticket.0 → IsAbove es x.ticket.0 → x.ticket.0 < 2 ^ 62 → Rises low es → Rises low (es ++ Offered f x ∷ [])
rises-offered low f x [] le above small h = (le, small, tt)
rises-offered low f x (Offered g y ∷ es) le above small h = let a = above.0 in (h.0, h.1, rises-offered (y.ticket.0 + 1) f x es (omega arith) above.1 small h.2)
rises-offered low f x (Collected g q ∷ es) le above small h = rises-offered low f x es le above small h

module _ (allows : Job → Form → Type 0) where
  pub answered-more : (xs : List Job) (rs : List Report) (x : Job) (r : Report) → Answered allows xs rs → Fits allows x r → Answered allows (xs ++ x ∷ []) (rs ++ r ∷ [])
  answered-more [] [] x r h f = (f, tt)
  answered-more [] (q ∷ rs) x r h f = absurd h
  answered-more (y ∷ xs) [] x r h f = absurd h
  answered-more (y ∷ xs) (q ∷ rs) x r h f = (h.0, answered-more xs rs x r h.1 f)

  -- the last answer is for the last job
  pub last_answer : (xs : List Job) (rs : List Report) (r : Report) → Answered allows xs (rs ++ r ∷ []) → (before : List Job) × (x : Job) × (xs ≡ before ++ x ∷ []) × Fits allows x r
  last_answer [] [] r h = absurd h
  last_answer [] (q ∷ rs) r h = absurd h
  last_answer (y ∷ []) [] r h = ([], y, refl, h.0)
  last_answer (y ∷ z ∷ xs) [] r h = absurd h.1
  last_answer (y ∷ xs) (q ∷ rs) r h = let t = last_answer xs rs r h.1 in (y ∷ t.0, t.1, ap (λ l. y ∷ l) t.2, t.3)

module _ {A : Type 0} where
  head_or : A → List A → A
  head_or a [] = a
  head_or a (x ∷ xs) = x

  tail : List A → List A
  tail [] = []
  tail (x ∷ xs) = xs

  pub same_last : (xs ys : List A) (x y : A) → xs ++ x ∷ [] ≡ ys ++ y ∷ [] → (xs ≡ ys) × (x ≡ y)
  same_last [] [] x y e = (refl, cc)
  same_last [] (b ∷ []) x y e = absurd (cc)
  same_last [] (b ∷ c ∷ ys) x y e = absurd (cc)
  same_last (a ∷ []) [] x y e = absurd (cc)
  same_last (a ∷ c ∷ xs) [] x y e = absurd (cc)
  same_last (a ∷ xs) (b ∷ ys) x y e =
      let tails : xs ++ x ∷ [] ≡ ys ++ y ∷ [] = cc in
      let heads : a ≡ b = cc in
      let t = same_last xs ys x y tails in
      ((λ i. heads i ∷ t.0 i), t.1)

pub is_idle : (ph : Phase) → word_of ph ≡ 0 → ph ≡ idle
is_idle idle e = refl
is_idle (offered x) e = absurd (omega arith)
is_idle (taken b x) e = absurd (omega arith)
is_idle (answered r) e = absurd (omega arith)
is_idle shut e = absurd (omega arith)

pub is_offered : (ph : Phase) → word_of ph % 4 ≡ 1 → (x : Job) × (ph ≡ offered x)
is_offered idle e = absurd (omega arith)
is_offered (offered x) e = (x, refl)
is_offered (taken b x) e = absurd (omega arith)
is_offered (answered r) e = absurd (omega arith)
is_offered shut e = absurd (omega arith)

pub is_taken : (ph : Phase) → word_of ph % 4 ≡ 2 → (b : List Job) × (x : Job) × (ph ≡ taken b x)
is_taken idle e = absurd (omega arith)
is_taken (offered x) e = absurd (omega arith)
is_taken (taken b x) e = (b, x, refl)
is_taken (answered r) e = absurd (omega arith)
is_taken shut e = absurd (omega arith)

pub is_answered : (ph : Phase) → word_of ph % 4 ≡ 3 → (r : Report) × (ph ≡ answered r)
is_answered idle e = absurd (omega arith)
is_answered (offered x) e = absurd (omega arith)
is_answered (taken b x) e = absurd (omega arith)
is_answered (answered r) e = (r, refl)
is_answered shut e = absurd (omega arith)
