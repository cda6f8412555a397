-- Two runs of plans that differ in forks alone end alike.
use Rattle.std.proofs.Common.{◌≡◌, ℕ, Bool, ◌&&◌, List, [], ◌∷◌, map, refl, sym, ◌∙◌, ap, subst}
use Rattle.std.specs.Prelude.{slice_get}
use Rattle.std.specs.Option.{option_map_or}
use Rattle.pb_facts.specs.Facts.{no_facts}
use Rattle.pb_plan.specs.Plan.{PlanOf}
use Rattle.pb_task_vars.specs.Results.{items_at, came_at}
use Rattle.pb_host.specs.Host.{HostOf}
use Rattle.pb_recap.proofs.Counted.{recap_of_run}
use Rattle.pb_state.specs.declared.event.Event.{Event}
use Rattle.pb_state.specs.declared.event.Event.TheVariants.{Open, Start, Send, Report as Reported, Turn, Close, Stop, Forks}
use Rattle.pb_state.specs.Machine.{possible, after, first_state}
use Rattle.pb_state.specs.Run.{legal_from, state_from, state_after_under, IsFinished}
use Rattle.pb_state.specs.State.{State}
use Rattle.pb_confluence.specs.Fixed.{Fixed, IsFixedAt, IsFixed}
use Rattle.pb_confluence.specs.Confluence.{IsWhole, with_forks, IsEnd, CountsTogether, EndAlike}
use Rattle.pb_confluence.proofs.Ends.{ends_together}

-- the machine reads the plan without its forks
possible_forks : (n : ℕ) (plan : PlanOf) (s : State) (e : Event) → possible (with_forks n plan) s e ≡ possible plan s e
possible_forks n plan s Open = refl
possible_forks n plan s (Start h) = refl
possible_forks n plan s (Send h item attempt ticket) = refl
possible_forks n plan s (Reported r) = refl
possible_forks n plan s Turn = refl
possible_forks n plan s Close = refl
possible_forks n plan s Stop = refl
possible_forks n plan s (Forks m) = refl

after_forks : (n : ℕ) (plan : PlanOf) (s : State) (e : Event) → after (with_forks n plan) s e ≡ after plan s e
unfolding items_at came_at
after_forks n plan s Open = refl
after_forks n plan s (Start h) = refl
after_forks n plan s (Send h item attempt ticket) = refl
after_forks n plan s (Reported r) = refl
after_forks n plan s Turn = refl
after_forks n plan s Close = refl
after_forks n plan s Stop = refl
after_forks n plan s (Forks m) = refl

fixed_forks : (n : ℕ) (plan : PlanOf) (f : Fixed) (s : State) (e : Event) → IsFixedAt (with_forks n plan) f s e → IsFixedAt plan f s e
fixed_forks n plan f s Open fixed = tt
fixed_forks n plan f s (Start h) fixed = tt
fixed_forks n plan f s (Send h item attempt ticket) fixed = tt
fixed_forks n plan f s (Reported r) fixed = fixed
fixed_forks n plan f s Turn fixed = tt
fixed_forks n plan f s Close fixed = tt
fixed_forks n plan f s Stop fixed = tt
fixed_forks n plan f s (Forks m) fixed = tt

pub state_forks : (n : ℕ) (plan : PlanOf) (s : State) (trail : List Event) → state_from (with_forks n plan) s trail ≡ state_from plan s trail
state_forks n plan s [] = refl
state_forks n plan s (e ∷ es) = state_forks n plan (after (with_forks n plan) s e) es ∙ ap (λ (t : State). state_from plan t es) (after_forks n plan s e)

pub legal_forks : (n : ℕ) (plan : PlanOf) (s : State) (trail : List Event) → legal_from (with_forks n plan) s trail ≡ legal_from plan s trail
legal_forks n plan s [] = refl
legal_forks n plan s (e ∷ es) =
    ap (λ (b : Bool). b && legal_from (with_forks n plan) (after (with_forks n plan) s e) es) (possible_forks n plan s e)
    ∙ ap (λ (b : Bool). possible plan s e && b) (legal_forks n plan (after (with_forks n plan) s e) es ∙ ap (λ (t : State). legal_from plan t es) (after_forks n plan s e))

all_fixed : (n : ℕ) (plan : PlanOf) (f : Fixed) (s : State) (trail : List Event) → IsFixed (with_forks n plan) f s trail → IsFixed plan f s trail
all_fixed n plan f s [] fixed = tt
all_fixed n plan f s (e ∷ es) fixed =
    (fixed_forks n plan f s e fixed.0, subst (λ (t : State). IsFixed plan f t es) (after_forks n plan s e) (all_fixed n plan f (after (with_forks n plan) s e) es fixed.1))

finished_forks : (n : ℕ) (plan : PlanOf) (s : State) → IsFinished (with_forks n plan) s → IsFinished plan s
finished_forks n plan s finished = record { over = λ e c. sym (possible_forks n plan s e) ∙ finished.over e c; none_out = finished.none_out }

-- so a run of the plan with other forks is a run of the plan that begins with these
pub whole_forks : (n : ℕ) (plan : PlanOf) (f : Fixed) (pool : ℕ) (trail : List Event) (s : State) → IsEnd (with_forks n plan) f pool trail s → (IsWhole plan f n pool trail) × (state_after_under plan n pool trail ≡ s)
whole_forks n plan f pool trail s run =
    let ends : state_after_under plan n pool trail ≡ s = sym (state_forks n plan (first_state plan n pool) trail) ∙ run.run.ends in (
      record {
        some = run.some;
        legal = sym (legal_forks n plan (first_state plan n pool) trail) ∙ run.run.legal;
        is_fixed = all_fixed n plan f (first_state plan n pool) trail run.is_fixed;
        finished = subst (IsFinished plan) (sym ends) (finished_forks n plan s run.finished);
        unstopped = ap (λ (t : State). t.stopped) ends ∙ run.unstopped;
      },
      ends,
    )

-- a run with the plan's own forks
pub whole_of : (plan : PlanOf) (f : Fixed) (pool : ℕ) (trail : List Event) (s : State) → IsEnd plan f pool trail s → IsWhole plan f plan.forks pool trail
whole_of plan f pool trail s run =
    record {
      some = run.some;
      legal = run.run.legal;
      is_fixed = run.is_fixed;
      finished = subst (IsFinished plan) (sym run.run.ends) run.finished;
      unstopped = ap (λ (t : State). t.stopped) run.run.ends ∙ run.unstopped;
    }

pub counts_together : CountsTogether
counts_together plan f pool trail s linear independent run =
    sym (recap_of_run plan pool trail s run.run)
    ∙ ap (λ (t : State). map (λ (row : HostOf). row.counts) t.rows) (sym run.run.ends)
    ∙ ap (λ (rows : List HostOf). map (λ (row : HostOf). row.counts) rows) (ends_together plan f plan.forks pool trail linear independent (whole_of plan f pool trail s run))

pub end_alike : EndAlike
end_alike plan f m n pool other_pool trail other s t linear independent run also =
    let one = whole_forks m plan f pool trail s run in
    let two = whole_forks n plan f other_pool other t also in
    let rows : s.rows ≡ t.rows =
    ap (λ (u : State). u.rows) (sym one.1) ∙ ends_together plan f m pool trail linear independent one.0 ∙ sym (ends_together plan f n other_pool other linear independent two.0) ∙ ap (λ (u : State). u.rows) two.1 in
    record {
      rows = rows;
      facts = λ host. ap (λ (all : List HostOf). option_map_or (λ (row : HostOf). row.facts) (slice_get all host) no_facts) rows;
      counts =
          sym (recap_of_run (with_forks m plan) pool trail s run.run) ∙ ap (λ (all : List HostOf). map (λ (row : HostOf). row.counts) all) rows
          ∙ recap_of_run (with_forks n plan) other_pool other t also.run;
    }
