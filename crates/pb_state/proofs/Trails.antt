-- Trails that go on: by an event that is possible, and by more of them.
use Rattle.std.proofs.Common.{◌≡◌, ℕ, Bool, true, false, ◌&&◌, List, [], ◌∷◌, ◌++◌, refl, ◌∙◌, ap}
use Rattle.pb_state.specs.declared.event.Event.{Event}
use Rattle.pb_plan.specs.Plan.{PlanOf}
use Rattle.pb_state.specs.State.{State}
use Rattle.pb_state.specs.Machine.{possible, after, first_state}
use Rattle.pb_state.specs.Run.{legal_from, state_from, IsRun}

split : (a b : Bool) → (a && b) ≡ true → (a ≡ true) × (b ≡ true)
split true b h = (refl, h)
split false b h = cc

pub legal_more : (plan : PlanOf) (s : State) (es : List Event) (e : Event) → legal_from plan s es ≡ true → possible plan (state_from plan s es) e ≡ true → legal_from plan s (es ++ e ∷ []) ≡ true
legal_more plan s [] e l p = rw p refl
legal_more plan s (d ∷ es) e l p =
    let both = split (possible plan s d) (legal_from plan (after plan s d) es) l in
    rw (both.0, legal_more plan (after plan s d) es e both.1 p) refl

pub state_more : (plan : PlanOf) (s : State) (es : List Event) (e : Event) → state_from plan s (es ++ e ∷ []) ≡ after plan (state_from plan s es) e
state_more plan s [] e = refl
state_more plan s (d ∷ es) e = state_more plan (after plan s d) es e

pub run_more : (plan : PlanOf) (pool : ℕ) (trail : List Event) (s : State) (e : Event) → IsRun plan pool trail s → possible plan s e ≡ true → IsRun plan pool (trail ++ e ∷ []) (after plan s e)
run_more plan pool trail s e run p =
    record {
      legal = legal_more plan (first_state plan plan.forks pool) trail e run.legal (rw run.ends p);
      ends = state_more plan (first_state plan plan.forks pool) trail e ∙ ap (λ t. after plan t e) run.ends;
    }

-- two trails, one behind the other
pub state_both : (plan : PlanOf) (s : State) (xs ys : List Event) → state_from plan s (xs ++ ys) ≡ state_from plan (state_from plan s xs) ys
state_both plan s [] ys = refl
state_both plan s (x ∷ xs) ys = state_both plan (after plan s x) xs ys

pub legal_both : (plan : PlanOf) (s : State) (xs ys : List Event) → legal_from plan s xs ≡ true → legal_from plan (state_from plan s xs) ys ≡ true → legal_from plan s (xs ++ ys) ≡ true
legal_both plan s [] ys l m = m
legal_both plan s (x ∷ xs) ys l m =
    let both = split (possible plan s x) (legal_from plan (after plan s x) xs) l in
    rw (both.0, legal_both plan (after plan s x) xs ys both.1 m) refl

pub legal_rest : (plan : PlanOf) (s : State) (xs ys : List Event) → legal_from plan s (xs ++ ys) ≡ true → legal_from plan (state_from plan s xs) ys ≡ true
legal_rest plan s [] ys legal = legal
legal_rest plan s (x ∷ xs) ys legal = legal_rest plan (after plan s x) xs ys (split (possible plan s x) _ legal).1
