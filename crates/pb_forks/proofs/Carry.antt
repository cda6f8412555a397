-- What a seat knows and carries after a plain write of its slot, and what a seat's ghost fields say.
use Rattle.std.proofs.Common.{◌≡◌, ℕ, ◌+◌, ◌*◌, false, arith, Some, zero, suc, get_or, set, List, [], ◌∷◌, refl, sym, ap, ◌∙◌}
use Rattle.atomic_table.specs.Table.{rest}
use Rattle.pb_forks.specs.declared.views.ForkView.{ForkView}
use Rattle.pb_forks.specs.declared.views.MainView.{MainView}
use Rattle.pb_forks.specs.declared.views.View.{View}
use Rattle.pb_forks.specs.declared.views.View.TheVariants.{Main, Fork}
use Rattle.pb_outcome.specs.declared.job.Job.{Job}
use Rattle.pb_outcome.specs.declared.job.Report.{Report}
use Rattle.pb_forks.specs.declared.parcel.Parcel.TheVariants.{Work, Done}
use Rattle.pb_forks.specs.declared.views.Entry.TheVariants.{Collected}
use Rattle.pb_forks.specs.Rule.{Slot}
use Rattle.pb_forks.specs.Steps.{Mine}
use Rattle.pb_forks.specs.Views.{main_of, fork_of, main_looked, main_did, main_hand, fork_looked, fork_took, fork_holds}

pub put_in : (before after : Mine) (v : View) (j : ℕ) (x y : Slot) (cs : List (ℕ × Slot)) → before.0 ≡ v → before.1 ≡ (j, y) ∷ cs → cs ≡ [] → after ≡ (before.0, (j, x) ∷ rest before.1) → (after.0 ≡ v) × (after.1 ≡ (j, x) ∷ [])
put_in before after v j x y cs a b c d = (ap (λ (z : Mine). z.0) d ∙ a, ap (λ (z : Mine). z.1) d ∙ ap (λ ls. (j, x) ∷ rest ls) b ∙ ap (λ ls. (j, x) ∷ ls) c)

pub is_main : (v : View) (m : MainView) → v ≡ Main m → v ≡ Main (main_of v)
is_main v m e = e ∙ ap (λ z. Main (main_of z)) (sym e)

pub is_fork : (v : View) (j : ℕ) (p : ForkView) → v ≡ Fork j p → v ≡ Fork j (fork_of v)
is_fork v j p e = e ∙ ap (λ z. Fork j (fork_of z)) (sym e)

abbrev first_or : Slot → List (ℕ × Slot) → Slot
first_or d [] = d
first_or d (c ∷ cs) = c.1

-- the slot's value before
pub was : (j : ℕ) (x y : Slot) (cs ds : List (ℕ × Slot)) → (j, x) ∷ cs ≡ (j, y) ∷ ds → x ≡ y
was j x y cs ds e = ap (first_or x) e

-- it can be read and written
pub carries : (j : ℕ) (x : Slot) (ls cs : List (ℕ × Slot)) → ls ≡ (j, x) ∷ cs → (old : Slot) × (ls ≡ (j, old) ∷ rest ls)
carries j x ls cs e = (x, e ∙ ap (λ ds. (j, x) ∷ ds) (sym (ap rest e)))

abbrev work_or : Job → Slot → Job
work_or d (Some (Work x)) = x
work_or d _ = d

abbrev done_or : Report → Slot → Report
done_or d (Some (Done r)) = r
done_or d _ = d

pub took_is : (j found : ℕ) (x y : Job) (v₀ v₁ v₂ v₃ v₄ : View) → v₁ ≡ Fork j (fork_looked found (fork_of v₀)) → v₂ ≡ Fork j (fork_took (found + 1) x (fork_of v₁)) → v₃ ≡ v₂ → v₄ ≡ Fork j (fork_holds false (fork_of v₃))
    → found ≡ 4 * x.ticket.0 + 1 → (parcel : Slot) → Some (Work x) ≡ parcel → parcel ≡ Some (Work y) → fork_of v₄ ≡ fork_holds false (fork_took (4 * y.ticket.0 + 2) y (fork_looked (4 * y.ticket.0 + 1) (fork_of v₀)))
took_is j found x y v₀ v₁ v₂ v₃ v₄ a b c d e parcel f h =
    let same : x ≡ y = ap (work_or x) (f ∙ h) in
    let ticket : x.ticket.0 ≡ y.ticket.0 = ap (λ (z : Job). z.ticket.0) same in
    let one : found ≡ 4 * y.ticket.0 + 1 = omega arith in
    let two : found + 1 ≡ 4 * y.ticket.0 + 2 = omega arith in
    ap fork_of d ∙ (ap (λ v. fork_holds false (fork_of v)) (c ∙ b) ∙ (ap (λ v. fork_holds false (fork_took (found + 1) x (fork_of v))) a ∙ (λ i. fork_holds false (fork_took (two i) (same i) (fork_looked (one i) (fork_of v₀))))))

pub collected_is : (j found : ℕ) (x y : Report) (v₀ v₁ v₂ v₃ v₄ : View) → v₁ ≡ Main (main_looked j found (main_of v₀)) → v₂ ≡ Main (main_did j 0 (j + 1) (Collected j x) (main_of v₁)) → v₃ ≡ v₂ → v₄ ≡ Main (main_hand 0 (main_of v₃))
    → found ≡ 4 * x.ticket.0 + 3 → x ≡ y → main_of v₄ ≡ main_hand 0 (main_did j 0 0 (Collected j y) (main_looked j (4 * y.ticket.0 + 3) (main_of v₀)))
collected_is j found x y v₀ v₁ v₂ v₃ v₄ a b c d e same =
    let ticket : x.ticket.0 ≡ y.ticket.0 = ap (λ (z : Report). z.ticket.0) same in
    let three : found ≡ 4 * y.ticket.0 + 3 = omega arith in
    ap main_of d ∙ (ap (λ v. main_hand 0 (main_of v)) (c ∙ b) ∙ (ap (λ v. main_hand 0 (main_did j 0 (j + 1) (Collected j x) (main_of v))) a ∙ (λ i. main_hand 0 (main_did j 0 (j + 1) (Collected j (same i)) (main_looked j (three i) (main_of v₀))))))

pub same_report : (x y : Report) (parcel : Slot) → Some (Done x) ≡ parcel → parcel ≡ Some (Done y) → x ≡ y
same_report x y parcel f h = ap (done_or x) (f ∙ h)

pub set_zero : (l : List ℕ) (j : ℕ) → get_or (set l j 0) j 0 ≡ 0
set_zero [] j = refl
set_zero (x ∷ xs) zero = refl
set_zero (x ∷ xs) (suc j) = set_zero xs j
