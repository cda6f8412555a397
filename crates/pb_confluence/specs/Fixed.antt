-- Runs in which what comes of each job is fixed: it is given by the job, however many hosts run at once and whenever it is sent.
use Rattle.std.specs.Prelude.{◌≡◌, ℕ, List, [], ◌∷◌, Option, IfSome}
use Rattle.std.specs.Option.{option_map_or}
use Rattle.pb_outcome.specs.declared.cause.Cause.TheVariants.{CannotStart}
use Rattle.pb_outcome.specs.declared.job.Call.{Call}
use Rattle.pb_outcome.specs.declared.job.Job.{Job}
use Rattle.pb_outcome.specs.declared.outcome.Form.{Form}
use Rattle.pb_outcome.specs.declared.outcome.Form.TheVariants.{NotStarted}
use Rattle.pb_plan.specs.Plan.{PlanOf}
use Rattle.pb_state.specs.declared.event.Event.{Event}
use Rattle.pb_state.specs.declared.event.Event.TheVariants.{Open, Start, Send, Report as Reported, Turn, Close, Stop, Forks}
use Rattle.pb_state.specs.Jobs.{job_of}
use Rattle.pb_state.specs.Machine.{after}
use Rattle.pb_state.specs.State.{State}

-- what a job is, but for its ticket, which says when it was sent
pub record Asked : Type 0 where
  pub host : ℕ
  pub play : ℕ
  pub place : List ℕ
  pub item : ℕ
  pub attempt : ℕ
  pub delay : ℕ
  pub target : List ℕ
  pub connector : List (List ℕ)
  pub call : Call

abbrev pub asked_of : Job → Asked
asked_of job =
    record {
      host = job.host.0;
      play = job.play.0;
      place = job.place;
      item = job.item;
      attempt = job.attempt;
      delay = job.delay;
      target = job.target;
      connector = job.connector;
      call = job.call;
    }

-- what comes of each job
abbrev pub Fixed : Type 0
Fixed = Asked → Form

-- where a host has no job nothing starts
abbrev pub outcome_of : Fixed → Option Job → Form
outcome_of f job = option_map_or (λ (j : Job). f (asked_of j)) job (NotStarted CannotStart)

-- a report tells what is fixed for its job
abbrev pub IsFixedAt : PlanOf → Fixed → State → Event → Type 0
IsFixedAt plan f s (Reported r) = IfSome (job_of plan s r.host r.ticket) (λ (job : Job). r.outcome ≡ f (asked_of job))
IsFixedAt plan f s Open = Unit {0}
IsFixedAt plan f s (Start h) = Unit {0}
IsFixedAt plan f s (Send h item attempt ticket) = Unit {0}
IsFixedAt plan f s Turn = Unit {0}
IsFixedAt plan f s Close = Unit {0}
IsFixedAt plan f s Stop = Unit {0}
IsFixedAt plan f s (Forks n) = Unit {0}

-- each report among these events does, from this state on
abbrev pub IsFixed : PlanOf → Fixed → State → List Event → Type 0
IsFixed plan f s [] = Unit {0}
IsFixed plan f s (e ∷ es) = IsFixedAt plan f s e × IsFixed plan f (after plan s e) es
