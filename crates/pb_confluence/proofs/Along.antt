-- What holds in each state of a run, by the laws of the machine; and that a report tells of a job.
use Rattle.std.proofs.Common.{◌≡◌, ◌<◌, ◌∙◌, ℕ, true, false, List, [], ◌∷◌, refl, ap}
use Rattle.std.specs.Prelude.{Option, Some, None, IfSome, is_some, slice_get}
use Rattle.std.specs.Option.{option_map_or}
use Rattle.pb_outcome.specs.declared.job.Job.{Job}
use Rattle.pb_outcome.specs.declared.job.Report.{Report}
use Rattle.pb_outcome.specs.declared.outcome.Form.{Form}
use Rattle.pb_plan.specs.Plan.{PlayOf, PlanOf}
use Rattle.pb_host.specs.Host.{HostOf}
use Rattle.pb_host.specs.Runs.{is_running, awaits}
use Rattle.pb_hosts.specs.Hosts.{at_row}
use Rattle.pb_state.specs.declared.event.Event.{Event}
use Rattle.pb_state.specs.declared.event.Event.TheVariants.{Report as Reported}
use Rattle.pb_state.specs.Jobs.{job_of}
use Rattle.pb_state.specs.Machine.{possible, after, open_play, may_report_in, first_state}
use Rattle.pb_state.specs.Run.{state_from}
use Rattle.pb_state.specs.State.{State}
use Rattle.pb_state.specs.Walks.{AreNumbered}
use Rattle.pb_state.proofs.Steps.{forks_stay}
use Rattle.pb_state.proofs.Walks.{IsOfPlan, first_of, step_of, rows_stay}
use Rattle.pb_state.proofs.Held.{IsHeld, held_run, step_held}
use Rattle.pb_state.proofs.HasJob.{runs_job}
use Rattle.pb_confluence.specs.Confluence.{with_forks}
use Rattle.pb_confluence.specs.Fixed.{Fixed, asked_of, outcome_of, IsFixedAt}
use Rattle.pb_confluence.proofs.Lists.{found_in}
use Rattle.pb_confluence.proofs.Starting.{awaits_some}

-- some host may run, rows have the numbers of their hosts wherever the run goes on to, those of the batch have the play's tree, and what runs has a job
pub record IsAlong (plan : PlanOf) (s : State) : Type 0 where
  pub forks : 0 < s.forks
  pub numbered : (es : List Event) → AreNumbered 0 (state_from plan s es).rows
  pub trees : IsOfPlan plan s
  pub held : IsHeld plan s

pub along_next : (plan : PlanOf) (s : State) (e : Event) → possible plan s e ≡ true → IsAlong plan s → IsAlong plan (after plan s e)
along_next plan s e may along =
    record {
      forks = forks_stay plan s e may along.forks;
      numbered = λ es. along.numbered (e ∷ es);
      trees = step_of plan s e along.trees;
      held = step_held plan s e may along.trees along.held;
    }

first_held : (plan : PlanOf) (forks pool : ℕ) → IsHeld plan (first_state plan forks pool)
first_held plan forks pool =
    let held = held_run (with_forks forks plan) pool [] (first_state plan forks pool) (record { legal = refl; ends = refl }) in
    record { hosts = held.hosts; tasks = held.tasks }

pub along_first : (plan : PlanOf) (forks pool : ℕ) → 0 < forks → IsAlong plan (first_state plan forks pool)
along_first plan forks pool some =
    record {
      forks = some;
      numbered = λ es. rows_stay plan forks pool es;
      trees = first_of plan forks pool;
      held = first_held plan forks pool;
    }

-- a report that is possible is of a host that runs
reports_runner : (s : State) (r : Report) (found : Option PlayOf) → option_map_or (may_report_in s r) found false ≡ true → at_row is_running s.rows r.host.0 ≡ true
reports_runner s r None may = cc
reports_runner s r (Some play) may =
    let at = found_in (awaits r.ticket r.item r.attempt) (slice_get s.rows r.host.0) may in
    let some = awaits_some r.ticket r.item r.attempt at.0.running at.2 in
    ap (λ (found : Option HostOf). option_map_or is_running found false) at.1 ∙ ap is_some some.1

fixed_some : (f : Fixed) (o : Form) (job : Option Job) → is_some job ≡ true → IfSome job (λ (j : Job). o ≡ f (asked_of j)) → o ≡ outcome_of f job
fixed_some f o None e fixed = cc
fixed_some f o (Some job) e fixed = fixed

-- so it has a job, and tells what is fixed for that
pub report_fixed : (plan : PlanOf) (f : Fixed) (s : State) (r : Report) → IsAlong plan s → option_map_or (may_report_in s r) (open_play plan s) false ≡ true → IsFixedAt plan f s (Reported r)
    → r.outcome ≡ outcome_of f (job_of plan s r.host r.ticket)
report_fixed plan f s r along may fixed =
    fixed_some f r.outcome (job_of plan s r.host r.ticket) (runs_job plan s r.host r.ticket along.held (reports_runner s r (open_play plan s) may)) fixed
