-- All the laws of one run, together: what is proved of each trail that the calls above hand out.
use Rattle.std.specs.Prelude.{◌≡◌, ℕ, Bool, true, List, []}
use Rattle.pb_plan.specs.Plan.{PlanOf}
use Rattle.pb_state.specs.declared.event.Event.{Event}
use Rattle.pb_state.specs.Run.{IsLegal, state_after, IsFinished}
use Rattle.pb_confluence.specs.FromRecap.{recap}
use Rattle.pb_confluence.specs.Ends.{EndsAsFixed}
use Rattle.pb_laws.specs.History.{Happening, history}
use Rattle.pb_laws.specs.States.{GoesOn}
use Rattle.pb_laws.specs.Laws.{holds_from, so_far, own_hosts, within_forks, in_order, places_rise, out_is_out, have_walked, all_closed, jobs_in_order, all_answered, attempts_in_order, add_up, status_tells}

-- each thing that happens in this run fits what happened before it
abbrev pub Keeps : (PlanOf → List Happening → Happening → Bool) → PlanOf → ℕ → List Event → Type 0
Keeps law plan pool trail = holds_from (law plan) [] (history plan plan.forks pool trail) ≡ true

-- if the run is at its end, all that happened in it fits
abbrev pub KeepsAtTheEnd : (PlanOf → List Happening → Bool) → PlanOf → ℕ → List Event → Type 0
KeepsAtTheEnd law plan pool trail =
    IsFinished plan (state_after plan pool trail) → law plan (so_far [] (history plan plan.forks pool trail)) ≡ true

pub record KeepsLaws (plan : PlanOf) (pool : ℕ) (trail : List Event) : Type 0 where
  -- a host starts a task only if the play's pattern and the limit select it, and only in its batch; it is in one batch of a play
  pub own : Keeps own_hosts plan pool trail
  -- no more hosts run than the forks of that moment, and no more run a task than its throttle
  pub forks : Keeps within_forks plan pool trail
  -- a host starts the task to which its answers lead it, and waits in a linear play for the others of its batch; and it starts none twice
  pub order : Keeps in_order plan pool trail
  pub rise : Keeps places_rise plan pool trail
  -- a host that is out starts nothing more, but always parts and forced handlers
  pub out : Keeps out_is_out plan pool trail
  -- where a batch closes its hosts have walked to their ends; and at the end of a run that wasn't stopped each batch has closed
  pub walked : Keeps have_walked plan pool trail
  pub closed : KeepsAtTheEnd all_closed plan pool trail
  -- a report answers a job that is out, and none twice; and at the end all are answered
  pub jobs : Keeps jobs_in_order plan pool trail
  pub answered : KeepsAtTheEnd all_answered plan pool trail
  -- the attempts at an item go out one behind the report of the other, and no more of them than its task allows
  pub attempts : Keeps attempts_in_order plan pool trail
  -- the counts of the recap come to the tasks that ended, and the exit status tells whether one of them failed or a host was out of reach
  pub counts : add_up 0 (recap plan pool trail) (so_far [] (history plan plan.forks pool trail)) ≡ true
  pub status : status_tells (recap plan pool trail) ≡ true
  -- where what comes of each job is fixed, the facts and the recap at its end are known by plan and outcomes alone
  pub fixed : EndsAsFixed plan pool trail (state_after plan pool trail)
  -- wherever it has come to, the hosts that are seen as ready are those that may act, statuses follow answers, and there is a way to the end
  pub goes_on : GoesOn plan (state_after plan pool trail)

-- in every legal run of every plan, whether it goes on to its end or not
abbrev pub RunsKeepLaws : Type 0
RunsKeepLaws = (plan : PlanOf) (pool : ℕ) (trail : List Event) → IsLegal plan pool trail → KeepsLaws plan pool trail
