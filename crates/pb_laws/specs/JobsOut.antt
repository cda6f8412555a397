-- What a run owes whoever runs its jobs: there is room for each job that goes out, it stays what it is until its report comes, and that report may come.
use Rattle.std.specs.Prelude.{◌≡◌, ◌==◌, ℕ, ◌+◌, ◌<◌, ◌≤◌, Bool, true, false, cond, is_some, List, [], ◌∷◌, map, slice_get, Option, Some}
use Rattle.std.specs.Option.{option_map_or}
use Rattle.pb_ids.specs.declared.numbers.HostNo.{HostNo}
use Rattle.pb_ids.specs.declared.numbers.Ticket.{Ticket}
use Rattle.pb_outcome.specs.declared.job.Job.{Job}
use Rattle.pb_outcome.specs.declared.job.Report.{Report}
use Rattle.pb_plan.specs.Plan.{PlanOf}
use Rattle.pb_host.specs.declared.host.Running.{Running}
use Rattle.pb_host.specs.Host.{HostOf}
use Rattle.pb_state.specs.declared.event.Event.{Event}
use Rattle.pb_state.specs.declared.event.Event.TheVariants.{Open, Start, Send, Report as Reported, Turn, Close, Stop, Forks}
use Rattle.pb_state.specs.Jobs.{job_of}
use Rattle.pb_state.specs.Machine.{possible, after}
use Rattle.pb_state.specs.Run.{IsRun}
use Rattle.pb_state.specs.State.{State}

-- what each host runs
abbrev pub tasks : State → List (Option Running)
tasks s = map (λ (row : HostOf). row.running) s.rows

-- how many hosts run a task
abbrev pub one_run : Option Running → ℕ
one_run running = cond (is_some running) 1 0

abbrev pub runs : List (Option Running) → ℕ
runs [] = 0
runs (running ∷ rest) = one_run running + runs rest

-- how many jobs are out
abbrev pub one_out : Option Running → ℕ
one_out running = option_map_or (λ (r : Running). cond (is_some r.out) 1 0) running 0

abbrev pub outs : List (Option Running) → ℕ
outs [] = 0
outs (running ∷ rest) = one_out running + outs rest

-- this job is out: its host runs the task that it is the next item of, and sent it under its ticket
abbrev pub IsOut : PlanOf → State → Job → Type 0
IsOut plan s x = (r : Running) × (slice_get (tasks s) x.host.0 ≡ Some (Some r)) × (r.out ≡ Some x.ticket) × (job_of plan s x.host x.ticket ≡ Some x)

-- the events by which a job goes out or comes back
abbrev pub has_mail : Event → Bool
has_mail Open = false
has_mail (Start h) = false
has_mail (Send h item attempt ticket) = true
has_mail (Reported r) = true
has_mail Turn = false
has_mail Close = false
has_mail Stop = false
has_mail (Forks n) = false

-- a report of this host
abbrev pub is_report_of : HostNo → Event → Bool
is_report_of host Open = false
is_report_of host (Start h) = false
is_report_of host (Send h item attempt ticket) = false
is_report_of host (Reported r) = r.host.0 == host.0
is_report_of host Turn = false
is_report_of host Close = false
is_report_of host Stop = false
is_report_of host (Forks n) = false

-- a report of this job
abbrev pub IsReportOf : Job → Report → Type 0
IsReportOf x r = (r.ticket ≡ x.ticket) × (r.host ≡ x.host) × (r.item ≡ x.item) × (r.attempt ≡ x.attempt)

-- what a run that has come to this state owes its workers, of whom there are as many as the pool says
pub record FitsWorkers (plan : PlanOf) (pool : ℕ) (s : State) : Type 0 where
  -- as many hosts may run as there are workers, or fewer; as many run as may, or fewer; and as many jobs are out as hosts run, or fewer
  pub forks : s.forks ≤ pool
  pub running : runs (tasks s) ≤ pool
  pub out : outs (tasks s) ≤ runs (tasks s)
  -- where a job may go out, fewer are out than there are workers; and it is out then
  pub room : (h : HostNo) (item attempt : ℕ) (ticket : Ticket) → possible plan s (Send h item attempt ticket) ≡ true → outs (tasks s) < pool
  pub goes : (h : HostNo) (item attempt : ℕ) (ticket : Ticket) (x : Job) → possible plan s (Send h item attempt ticket) ≡ true → job_of plan s h ticket ≡ Some x → IsOut plan (after plan s (Send h item attempt ticket)) x
  -- a job that is out stays out, and stays what it is, until its host reports
  pub stays : (x : Job) (e : Event) → IsOut plan s x → possible plan s e ≡ true → is_report_of x.host e ≡ false → IsOut plan (after plan s e) x
  -- its report may come
  pub comes : (x : Job) (r : Report) → IsOut plan s x → IsReportOf x r → possible plan s (Reported r) ≡ true

-- in every run with at least as many workers as the plan has forks
abbrev pub RunsFitWorkers : Type 0
RunsFitWorkers = (plan : PlanOf) (pool : ℕ) (trail : List Event) (s : State) → plan.forks ≤ pool → IsRun plan pool trail s → FitsWorkers plan pool s
