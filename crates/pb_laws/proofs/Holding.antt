-- A law holds of every run where what it rests on holds at the beginning, and each event keeps it and tells nothing that breaks the law.
use Rattle.std.proofs.Common.{◌≡◌, ℕ, Bool, true, List, [], ◌∷◌, ◌++◌, refl, sym, ◌∙◌, ap, subst}
use Rattle.pb_plan.specs.Plan.{PlanOf}
use Rattle.pb_state.specs.declared.event.Event.{Event}
use Rattle.pb_state.specs.Machine.{possible, after, first_state}
use Rattle.pb_state.specs.Run.{legal_from, state_from, IsLegalUnder, state_after_under}
use Rattle.pb_state.specs.State.{State}
use Rattle.pb_state.specs.Walks.{AreNumbered}
use Rattle.pb_state.proofs.StepNumbers.{and_left, and_right}
use Rattle.pb_state.proofs.Moves.{IsSound, sound_kept, moves}
use Rattle.pb_state.proofs.Once.{first_sound}
use Rattle.pb_state.proofs.Stands.{both}
use Rattle.pb_state.proofs.Trails.{state_both}
use Rattle.pb_state.proofs.Walks.{IsOfPlan, step_of, rows_stay}
use Rattle.pb_tree.specs.declared.answer.Kind.{Kind}
use Rattle.pb_laws.specs.History.{HostTask, Happening, MayRun, Given, happenings, history_from, history}
use Rattle.pb_laws.specs.Laws.{holds_from, so_far, Always}
use Rattle.pb_laws.proofs.Telling.{Seen, AreGiven, one_given, seen, Tells}
use Rattle.pb_laws.proofs.BatchTelling.{tells}

-- one part of a history after another
pub holds_both : (law : List Happening → Happening → Bool) (past xs ys : List Happening) → holds_from law past xs ≡ true → holds_from law (so_far past xs) ys ≡ true → holds_from law past (xs ++ ys) ≡ true
holds_both law past [] ys p q = q
holds_both law past (x ∷ xs) ys p q = both (law past x) _ (and_left (law past x) _ p) (holds_both law (x ∷ past) xs ys (and_right (law past x) _ p) q)

pub so_far_both : (past xs ys : List Happening) → so_far past (xs ++ ys) ≡ so_far (so_far past xs) ys
so_far_both past [] ys = refl
so_far_both past (x ∷ xs) ys = so_far_both (x ∷ past) xs ys

-- what hosts are given breaks no law that doesn't speak of it, and is nothing to what doesn't tell of it
pub given_holds : (law : List Happening → Happening → Bool) → ((past : List Happening) (task : HostTask) (kind : Kind) → law past (Given task kind) ≡ true)
    → (past happens : List Happening) → AreGiven happens → holds_from law past happens ≡ true
given_holds law free past [] given = refl
given_holds law free past (x ∷ xs) (one_given task kind given) = both (law past (Given task kind)) _ (free past task kind) (given_holds law free (Given task kind ∷ past) xs given)

pub given_same : {A : Type 0} (of : List Happening → A) → ((past : List Happening) (task : HostTask) (kind : Kind) → of (Given task kind ∷ past) ≡ of past)
    → (past happens : List Happening) → AreGiven happens → of (so_far past happens) ≡ of past
given_same of free past [] given = refl
given_same of free past (x ∷ xs) (one_given task kind given) = given_same of free (Given task kind ∷ past) xs given ∙ free past task kind

-- what a law rests on, of what has happened and of what is seen now
pub record Keeps (law : PlanOf → List Happening → Happening → Bool) (Fits : PlanOf → List Happening → Seen → Type 0) : Type 0 where
  pub begins : (plan : PlanOf) (n : ℕ) → law plan [] (MayRun n) ≡ true
  pub first : (plan : PlanOf) (forks pool : ℕ) → Fits plan (MayRun forks ∷ []) (seen (first_state plan forks pool))
  pub now : (plan : PlanOf) (past : List Happening) (v new : Seen) (happens : List Happening) → Tells plan v happens new → Fits plan past v → holds_from (law plan) past happens ≡ true
  pub next : (plan : PlanOf) (past : List Happening) (v new : Seen) (happens : List Happening) → Tells plan v happens new → Fits plan past v → Fits plan (so_far past happens) new

-- the rows of a run are numbered, wherever it has come to
numbered_at : (plan : PlanOf) (forks pool : ℕ) (before : List Event) (s : State) → state_after_under plan forks pool before ≡ s → AreNumbered 0 s.rows
numbered_at plan forks pool before s e = subst (λ (t : State). AreNumbered 0 t.rows) e (rows_stay plan forks pool before)

module _ (law : PlanOf → List Happening → Happening → Bool) (Fits : PlanOf → List Happening → Seen → Type 0) (keeps : Keeps law Fits) (plan : PlanOf) (forks pool : ℕ) where
  holds_on : (before : List Event) (s : State) → state_after_under plan forks pool before ≡ s → (past : List Happening) (es : List Event) → legal_from plan s es ≡ true → Fits plan past (seen s)
      → IsOfPlan plan s → IsSound s → holds_from (law plan) past (history_from plan s es) ≡ true
  holds_on before s led past [] l fits of sound = refl
  holds_on before s led past (e ∷ es) l fits of sound =
      let may = and_left (possible plan s e) _ l in
      let step = tells plan s e may (numbered_at plan forks pool before s led) of sound in
      holds_both (law plan) past (happenings plan s e (after plan s e)) (history_from plan (after plan s e) es)
      (keeps.now plan past (seen s) (seen (after plan s e)) (happenings plan s e (after plan s e)) step fits)
      (holds_on (before ++ e ∷ []) (after plan s e) (state_both plan (first_state plan forks pool) before (e ∷ []) ∙ ap (λ (t : State). after plan t e) led) (so_far past (happenings plan s e (after plan s e))) es
      (and_right (possible plan s e) _ l) (keeps.next plan past (seen s) (seen (after plan s e)) (happenings plan s e (after plan s e)) step fits)
      (step_of plan s e of) (sound_kept s (after plan s e) (moves plan s e may) sound))

  fits_on : (before : List Event) (s : State) → state_after_under plan forks pool before ≡ s → (past : List Happening) (es : List Event) → legal_from plan s es ≡ true → Fits plan past (seen s)
      → IsOfPlan plan s → IsSound s → Fits plan (so_far past (history_from plan s es)) (seen (state_from plan s es))
  fits_on before s led past [] l fits of sound = fits
  fits_on before s led past (e ∷ es) l fits of sound =
      let may = and_left (possible plan s e) _ l in
      let step = tells plan s e may (numbered_at plan forks pool before s led) of sound in
      subst (λ (happened : List Happening). Fits plan happened (seen (state_from plan (after plan s e) es))) (sym (so_far_both past (happenings plan s e (after plan s e)) (history_from plan (after plan s e) es)))
      (fits_on (before ++ e ∷ []) (after plan s e) (state_both plan (first_state plan forks pool) before (e ∷ []) ∙ ap (λ (t : State). after plan t e) led) (so_far past (happenings plan s e (after plan s e))) es
      (and_right (possible plan s e) _ l) (keeps.next plan past (seen s) (seen (after plan s e)) (happenings plan s e (after plan s e)) step fits)
      (step_of plan s e of) (sound_kept s (after plan s e) (moves plan s e may) sound))

-- no play is open at first
first_of : (plan : PlanOf) (forks pool : ℕ) → IsOfPlan plan (first_state plan forks pool)
first_of plan forks pool = λ play o. cc

-- in every run, and at its end
pub always : (law : PlanOf → List Happening → Happening → Bool) (Fits : PlanOf → List Happening → Seen → Type 0) → Keeps law Fits → Always law
always law Fits keeps plan forks pool trail l =
    both (law plan [] (MayRun forks)) _ (keeps.begins plan forks) (holds_on law Fits keeps plan forks pool [] (first_state plan forks pool) refl (MayRun forks ∷ []) trail l (keeps.first plan forks pool) (first_of plan forks pool) (first_sound plan forks pool))

pub at_end : (law : PlanOf → List Happening → Happening → Bool) (Fits : PlanOf → List Happening → Seen → Type 0) → Keeps law Fits → (plan : PlanOf) (forks pool : ℕ) (trail : List Event)
    → IsLegalUnder plan forks pool trail → Fits plan (so_far [] (history plan forks pool trail)) (seen (state_after_under plan forks pool trail))
at_end law Fits keeps plan forks pool trail l = fits_on law Fits keeps plan forks pool [] (first_state plan forks pool) refl (MayRun forks ∷ []) trail l (keeps.first plan forks pool) (first_of plan forks pool) (first_sound plan forks pool)
