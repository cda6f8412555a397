-- Tickets that rise.
use Rattle.std.proofs.Common.{◌≡◌, ℕ, ◌<◌, List, [], ◌∷◌, ◌++◌, sym, ap, ◌∙◌, subst, arith}
use Rattle.pb_outcome.specs.declared.job.Job.{Job}
use Rattle.pb_outcome.specs.declared.job.Report.{Report}
use Rattle.pb_outcome.specs.declared.outcome.Form.{Form}
use Rattle.pb_forks.specs.declared.views.Entry.{Entry}
use Rattle.pb_forks.specs.declared.views.Entry.TheVariants.{Offered, Collected}
use Rattle.pb_forks.specs.declared.views.MainView.{MainView}
use Rattle.pb_forks.specs.Logs.{IsAbove}
use Rattle.pb_forks.specs.Views.{offered_to, CollectedLast}

collected_above : (es : List Entry) (t f : ℕ) (r : Report) → IsAbove es t → IsAbove (es ++ Collected f r ∷ []) t
collected_above [] t f r h = tt
collected_above (Offered g y ∷ es) t f r h = (h.0, collected_above es t f r h.1)
collected_above (Collected g q ∷ es) t f r h = collected_above es t f r h

offered_above : (es : List Entry) (t f : ℕ) (x : Job) → x.ticket.0 < t → IsAbove es x.ticket.0 → IsAbove (es ++ Offered f x ∷ []) t
offered_above [] t f x lt h = (lt, tt)
offered_above (Offered g y ∷ es) t f x lt h = let a = h.0 in (omega arith, offered_above es t f x lt h.1)
offered_above (Collected g q ∷ es) t f x lt h = offered_above es t f x lt h

pub above_offered : (f : ℕ) (x : Job) (m n : MainView) → IsAbove m.log x.ticket.0 → n ≡ offered_to f x m → (t : ℕ) → x.ticket.0 < t → IsAbove n.log t
above_offered f x m n h e t lt = subst (λ (z : MainView). IsAbove z.log t) (sym e) (offered_above m.log t f x lt h)

pub above_collected : (allows : Job → Form → Type 0) (f : ℕ) (m : MainView) (r : Report) (n : MainView) → CollectedLast allows f m r n → (t : ℕ) → IsAbove m.log t → IsAbove n.log t
above_collected allows f m r n h t a =
    let log : n.log ≡ m.log ++ Collected f r ∷ [] = ap (λ (z : MainView). z.log) h.3 ∙ ap (λ es. es ++ Collected f r ∷ []) h.1.0 in
    subst (λ es. IsAbove es t) (sym log) (collected_above m.log t f r a)
