-- A run goes on by an event that is possible, and is none from one on that isn't.
use Rattle.std.proofs.Common.{◌≡◌, ◌<◌, ◌+◌, ◌∙◌, ℕ, zero, suc, Bool, true, false, ◌&&◌, List, [], ◌∷◌, Some, length, take, get_or, refl, sym, ap, subst, arith}
use Rattle.std.specs.Prelude.{slice_get}
use Rattle.pb_plan.specs.Plan.{PlanOf}
use Rattle.pb_state.specs.declared.event.Event.{Event}
use Rattle.pb_state.specs.Machine.{possible, after}
use Rattle.pb_state.specs.Run.{legal_from, state_from}
use Rattle.pb_state.specs.State.{State}
use Rattle.pb_state.proofs.Trails.{legal_more as with_possible, state_more as with_after}
use Rattle.pb_audit.proofs.Fronts.{with_next}
use Rattle.pb_audit.specs.Audit.{start_under, is_legal_under, end_under, IsFirstIllegalUnder}
use Rattle.pb_audit.specs.Names.{name_of}
use Rattle.pb_audit.specs.declared.name.EventName.{EventName}

both : (a b : Bool) → (a && b) ≡ true → (a ≡ true) × (b ≡ true)
both true b h = (refl, h)
both false b h = cc

none_of : (a b : Bool) → b ≡ false → (a && b) ≡ false
none_of true b h = h
none_of false b h = refl

-- one event more
pub legal_more : (plan : PlanOf) (s t : State) (trail : List Event) (i : ℕ) (e : Event) → i < length trail → e ≡ get_or trail i e → legal_from plan s (take i trail) ≡ true
    → t ≡ state_from plan s (take i trail) → possible plan t e ≡ true → legal_from plan s (take (i + 1) trail) ≡ true
legal_more plan s t trail i e h is legal at can =
    ap (legal_from plan s) (with_next trail i e h is)
    ∙ with_possible plan s (take i trail) e legal (subst (λ u. possible plan u e ≡ true) at can)

pub state_more : (plan : PlanOf) (s t : State) (trail : List Event) (i : ℕ) (e : Event) → i < length trail → e ≡ get_or trail i e → t ≡ state_from plan s (take i trail)
    → after plan t e ≡ state_from plan s (take (i + 1) trail)
state_more plan s t trail i e h is at =
    ap (λ u. after plan u e) at
    ∙ sym (ap (state_from plan s) (with_next trail i e h is) ∙ with_after plan s (take i trail) e)

-- the element at a place of a list
found : (trail : List Event) (i : ℕ) (e : Event) → i < length trail → e ≡ get_or trail i e → slice_get trail i ≡ Some e
found [] i e h is = absurd (omega arith)
found (d ∷ es) zero e h is = ap Some (sym is)
found (d ∷ es) (suc i) e h is = found es i e (omega arith) is

-- a trail with an event that isn't possible where it stands
not_legal : (plan : PlanOf) (s : State) (trail : List Event) (i : ℕ) (e : Event) → slice_get trail i ≡ Some e → possible plan (state_from plan s (take i trail)) e ≡ false → legal_from plan s trail ≡ false
not_legal plan s [] i e there cannot = cc
not_legal plan s (d ∷ es) zero e there cannot =
    let same : d ≡ e = cc in
    rw (ap (possible plan s) same ∙ cannot) refl
not_legal plan s (d ∷ es) (suc i) e there cannot = none_of (possible plan s d) _ (not_legal plan (after plan s d) es i e there cannot)

pub refused_here : (plan : PlanOf) (forks : ℕ) (t : State) (trail : List Event) (i : ℕ) (e : Event) (name : EventName) → i < length trail → e ≡ get_or trail i e → is_legal_under plan forks (take i trail) ≡ true
    → t ≡ end_under plan forks (take i trail) → possible plan t e ≡ false → name ≡ name_of e → IsFirstIllegalUnder plan forks trail i name
refused_here plan forks t trail i e name h is legal at cannot called = record {
  event = e;
  there = found trail i e h is;
  before = legal;
  illegal = subst (λ u. possible plan u e ≡ false) at cannot;
  called = called;
}

-- the first that isn't possible makes the whole trail illegal
pub refused_whole : (plan : PlanOf) (forks : ℕ) (trail : List Event) (i : ℕ) (name : EventName) → IsFirstIllegalUnder plan forks trail i name → is_legal_under plan forks trail ≡ false
refused_whole plan forks trail i name first = not_legal plan (start_under plan forks) trail i first.event first.there first.illegal
