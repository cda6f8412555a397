-- What a driver keeps from turn to turn, and what it answers.
use Rattle.std.specs.Prelude.{◌≡◌, ◌⊎◌, ℕ, List, ◌-◌, length, slice_get, [], ◌∷◌, ◌++◌, true, false, Option, Some}
use Rattle.std.specs.Option.{option_map_or}
use Rattle.pb_outcome.specs.declared.job.Job.{Job}
use Rattle.pb_outcome.specs.declared.job.Report.{Report}
use Rattle.pb_outcome.specs.declared.outcome.Form.{Form}
use Rattle.pb_state.specs.declared.event.Event.{Event}
use Rattle.pb_state.specs.declared.event.Event.TheVariants.{Open, Start, Send, Report as Reported, Turn, Close, Stop, Forks}
use Rattle.pb_host.specs.declared.host.Counts.{Counts}
use Rattle.pb_plan.specs.Plan.{PlanOf}
use Rattle.pb_state.specs.State.{State}
use Rattle.pb_state.specs.Machine.{after, first_state}
use Rattle.pb_state.specs.Jobs.{job_of}
use Rattle.pb_hosts.specs.Oldest.{oldest_out}
use Rattle.pb_state.specs.Run.{IsLegal, state_after, IsRun, IsEager, IsQuiet, IsFinished, is_report, is_command}
use Rattle.pb_state.specs.Once.{IsOnce}
use Rattle.pb_engine.specs.EngineOf.{EngineOf, Takes}
use Rattle.pb_state.specs.Over.{IsOver}
use Rattle.pb_events.specs.Lines.{lines_of}
use Rattle.pb_recap.specs.Recap.{recap}
use Rattle.pb_recap.specs.Kinds.{status_of}
use Rattle.pb_engine.specs.Laws.{EndsAsFixed}
use Rattle.pb_driver.specs.Taken.{with_more}
use Rattle.pb_driver.specs.Output.{lines_from, output}
use Rattle.pb_driver.specs.Ran.{answers_of}
use Rattle.pb_driver.specs.declared.given.Given.{Given}
use Rattle.pb_driver.specs.Commanded.{IsObeyed, IsObeyedTo}

-- a report answers the oldest of the jobs that are out, with an outcome that the runner's kind allows for this job, and that the runner itself gives
pub record IsAnswer (allows gives : Job → Form → Type 0) (plan : PlanOf) (s : State) (r : Report) : Type 0 where
  pub job : Job
  pub is_out : job_of plan s r.host r.ticket ≡ Some job
  pub oldest : oldest_out s.rows ≡ Some (r.host, r.ticket)
  pub allowed : allows job r.outcome
  pub given : gives job r.outcome

-- of workers: a report answers a job that is out, of its host, its item and its attempt, with an outcome that the workers' kind allows for this job
pub record IsWorkersAnswer (allows : Job → Form → Type 0) (plan : PlanOf) (s : State) (r : Report) : Type 0 where
  pub job : Job
  pub is_out : job_of plan s r.host r.ticket ≡ Some job
  pub its : (r.ticket ≡ job.ticket) × (r.host ≡ job.host) × (r.item ≡ job.item) × (r.attempt ≡ job.attempt)
  pub allowed : allows job r.outcome

-- what is true of a report, in the state in which it is taken
abbrev pub Answers : Type 1
Answers = PlanOf → State → Report → Type 0

-- the same of an event: one that is no report has nothing to answer
abbrev pub IsAnswerAt : Answers → PlanOf → State → Event → Type 0
IsAnswerAt answers plan s Open = Unit {0}
IsAnswerAt answers plan s (Start h) = Unit {0}
IsAnswerAt answers plan s (Send h item attempt ticket) = Unit {0}
IsAnswerAt answers plan s (Reported r) = answers plan s r
IsAnswerAt answers plan s Turn = Unit {0}
IsAnswerAt answers plan s Close = Unit {0}
IsAnswerAt answers plan s Stop = Unit {0}
IsAnswerAt answers plan s (Forks n) = Unit {0}

-- each report answers a job that was out
abbrev pub IsAnswered : Answers → PlanOf → State → List Event → Type 0
IsAnswered answers plan s [] = Unit {0}
IsAnswered answers plan s (e ∷ es) = IsAnswerAt answers plan s e × IsAnswered answers plan (after plan s e) es

-- the beginning of a run, which is one itself: a run that couldn't go on leaves this much of its trail, with the commands that were given
pub record IsBegunBy (answers : Answers) (plan : PlanOf) (pool : ℕ) (commands : List Given) (trail : List Event) : Type 0 where
  pub legal : IsLegal plan pool trail
  pub eager : IsEager plan (first_state plan plan.forks pool) trail
  pub once : IsOnce plan (first_state plan plan.forks pool) trail
  pub answered : IsAnswered answers plan (first_state plan plan.forks pool) trail
  pub obeyed : IsObeyedTo plan pool commands trail

-- by one runner
abbrev pub IsBegun : (allows gives : Job → Form → Type 0) → PlanOf → ℕ → List Given → List Event → Type 0
IsBegun allows gives = IsBegunBy (IsAnswer allows gives)

-- nothing is possible any more, since the run was stopped or ended early, or no batch is open and none is left to open
pub record HasEnded (plan : PlanOf) (s : State) : Type 0 where
  pub finished : IsFinished plan s
  pub over : IsOver plan s

-- a whole run, whoever ran its jobs: a legal, eager trail that does nothing twice, whose reports answer the jobs that were out and that ends in a finished state
-- and isn't stuck there; the commands that were due and aren't refused stand in it, and no others; and its output and nothing else was written
pub record IsWhole (answers : Answers) (plan : PlanOf) (pool : ℕ) (commands : List Given) (trail : List Event) (before after : Option (List ℕ)) : Type 0 where
  pub legal : IsLegal plan pool trail
  pub eager : IsEager plan (first_state plan plan.forks pool) trail
  pub once : IsOnce plan (first_state plan plan.forks pool) trail
  pub answered : IsAnswered answers plan (first_state plan plan.forks pool) trail
  pub obeyed : IsObeyed plan pool commands trail
  pub finished : IsFinished plan (state_after plan pool trail)
  pub over : IsOver plan (state_after plan pool trail)
  pub written : after ≡ with_more before (output plan pool trail)

-- a whole run by one runner: a legal, eager trail that does nothing twice, whose reports answer the jobs that were out and that ends in a finished state and isn't stuck
-- there; the commands that were due and aren't refused stand in it, and no others; exactly the jobs of its reports were run, in their order; and its output and
-- nothing else was written
pub record IsWholeRun (allows gives : Job → Form → Type 0) (has_run : List (Job × Form) → Type 0) (plan : PlanOf) (pool : ℕ) (commands : List Given) (trail : List Event) (before after : Option (List ℕ)) : Type 0 where
  pub legal : IsLegal plan pool trail
  pub eager : IsEager plan (first_state plan plan.forks pool) trail
  pub once : IsOnce plan (first_state plan plan.forks pool) trail
  pub answered : IsAnswered (IsAnswer allows gives) plan (first_state plan plan.forks pool) trail
  pub obeyed : IsObeyed plan pool commands trail
  pub finished : IsFinished plan (state_after plan pool trail)
  pub over : IsOver plan (state_after plan pool trail)
  pub ran : has_run (answers_of plan pool trail)
  pub written : after ≡ with_more before (output plan pool trail)

-- the recap and the exit status of a trail, and what its end is where what comes of its jobs is fixed
abbrev pub IsRecapped : PlanOf → ℕ → List Event → List Counts → ℕ → Type 0
IsRecapped plan pool trail counts status =
    (counts ≡ recap plan pool trail) × (status ≡ status_of (recap plan pool trail)) × EndsAsFixed plan pool trail (state_after plan pool trail)

-- the beginning of a run, as an engine has it, whatever commands were due
pub record HasBegun (answers : Answers) (engine : EngineOf) : Type 0 where
  pub legal : IsLegal engine.plan engine.pool engine.trail
  pub eager : IsEager engine.plan (first_state engine.plan engine.plan.forks engine.pool) engine.trail
  pub once : IsOnce engine.plan (first_state engine.plan engine.plan.forks engine.pool) engine.trail
  pub answered : IsAnswered answers engine.plan (first_state engine.plan engine.plan.forks engine.pool) engine.trail

-- the engine took one event that isn't a command; where it is a report, nothing that the machine takes by itself was possible, and the job that was out is answered
pub record TakesOne (answers : Answers) (old new : EngineOf) : Type 0 where
  pub event : Event
  pub takes : Takes old new event
  pub eager : is_report event ≡ true → IsQuiet old.plan old.state
  pub answer : IsAnswerAt answers old.plan old.state event
  pub uncommanded : is_command event ≡ false

-- one event was taken, which is no command
abbrev pub TakesOwn : EngineOf → EngineOf → Type 0
TakesOwn old new = (e : Event) × Takes old new e × (is_command e ≡ false)

-- at most one event was taken, and no command
abbrev pub TakesAtMost : EngineOf → EngineOf → Type 0
TakesAtMost old new = (new ≡ old) ⊎ TakesOwn old new

-- the lines of the last event
abbrev pub last_lines : EngineOf → List ℕ
last_lines engine = option_map_or (lines_of engine.plan engine.state) (slice_get engine.trail (length engine.trail - 1)) []

-- the lines of an engine's trail
abbrev pub lines_of_trail : EngineOf → List ℕ
lines_of_trail engine = lines_from engine.plan (first_state engine.plan engine.plan.forks engine.pool) engine.trail

-- the same plan and pool, and a legal run still
pub record IsSame (old new : EngineOf) : Type 0 where
  pub plan : new.plan ≡ old.plan
  pub pool : new.pool ≡ old.pool
  pub run : IsRun new.plan new.pool new.trail new.state

-- all events are commands
abbrev pub AreCommands : List Event → Type 0
AreCommands [] = Unit {0}
AreCommands (e ∷ es) = (is_command e ≡ true) × AreCommands es

-- the engine took commands, and nothing else
pub record TakesCommands (old new : EngineOf) : Type 0 where
  pub same : IsSame old new
  pub events : List Event
  pub commands : AreCommands events
  pub trail : new.trail ≡ old.trail ++ events

-- a turn keeps that the bytes are the lines of the engine's trail, whatever was written before
abbrev pub Keeps : EngineOf → EngineOf → Option (List ℕ) → Option (List ℕ) → Type 0
Keeps old new taken_old taken_new = (base : Option (List ℕ)) → taken_old ≡ with_more base (lines_of_trail old) → taken_new ≡ with_more base (lines_of_trail new)

-- an engine before its run
abbrev pub IsFresh : EngineOf → Type 0
IsFresh engine = (engine.state ≡ first_state engine.plan engine.plan.forks engine.pool) × (engine.trail ≡ [])
