-- Runs by a file of outcomes: what comes of each job is fixed by its table, where no memory was refused for what the table gives.
use Rattle.std.specs.Prelude.{◌≡◌, ⊤, zero, List, [], ◌∷◌, IfSome, slice_get, unwrap_or}
use Rattle.pb_inventory.specs.InventoryOf.{InventoryOf}
use Rattle.pb_outcome.specs.declared.cause.Cause.TheVariants.{OutOfMemory}
use Rattle.pb_outcome.specs.declared.job.Job.{Job}
use Rattle.pb_outcome.specs.declared.outcome.Form.{Form}
use Rattle.pb_outcome.specs.declared.outcome.Form.TheVariants.{NotStarted}
use Rattle.pb_plan.specs.Plan.{PlanOf}
use Rattle.pb_runner.specs.declared.table.Table.{Table}
use Rattle.pb_runner.specs.Table.{TableGives, answer}
use Rattle.pb_state.specs.declared.event.Event.{Event}
use Rattle.pb_state.specs.declared.event.Event.TheVariants.{Open, Start, Send, Report as Reported, Turn, Close, Stop, Forks}
use Rattle.pb_state.specs.Jobs.{job_of}
use Rattle.pb_state.specs.Machine.{after}
use Rattle.pb_state.specs.State.{State}
use Rattle.pb_engine.specs.Laws.{Asked, Fixed, IsFixed}
use Rattle.pb_driver.specs.Driven.{IsAnswer, IsAnswered}

-- a table may give every outcome
abbrev pub allows_all : Job → Form → Type 0
allows_all job outcome = ⊤

-- a job again, of what is asked of it: its host has the name that the inventory gives it, and its ticket is nothing to a table
abbrev pub job_again : InventoryOf → Asked → Job
job_again inventory asked =
    record {
      ticket = record { 0 = zero };
      host = record { 0 = asked.host };
      name = unwrap_or (slice_get inventory.hosts asked.host) [];
      play = record { 0 = asked.play };
      place = asked.place;
      item = asked.item;
      attempt = asked.attempt;
      delay = asked.delay;
      target = asked.target;
      connector = asked.connector;
      call = asked.call;
    }

-- what a table gives for each job of an inventory's hosts
abbrev pub given_by : InventoryOf → Table → Fixed
given_by inventory table asked = answer table (job_again inventory asked)

-- where a report says that memory was refused before its job was started, so does the table
abbrev pub IsUnrefusedAt : Table → PlanOf → State → Event → Type 0
IsUnrefusedAt table plan s Open = Unit {0}
IsUnrefusedAt table plan s (Start h) = Unit {0}
IsUnrefusedAt table plan s (Send h item attempt ticket) = Unit {0}
IsUnrefusedAt table plan s (Reported r) = IfSome (job_of plan s r.host r.ticket) (λ (job : Job). r.outcome ≡ NotStarted OutOfMemory → answer table job ≡ NotStarted OutOfMemory)
IsUnrefusedAt table plan s Turn = Unit {0}
IsUnrefusedAt table plan s Close = Unit {0}
IsUnrefusedAt table plan s Stop = Unit {0}
IsUnrefusedAt table plan s (Forks n) = Unit {0}

-- the same of each of these events, from this state on
abbrev pub IsUnrefused : Table → PlanOf → State → List Event → Type 0
IsUnrefused table plan s [] = Unit {0}
IsUnrefused table plan s (e ∷ es) = IsUnrefusedAt table plan s e × IsUnrefused table plan (after plan s e) es

-- so a run by a table is one under fixed outcomes
abbrev pub TablesFixOutcomes : Type 0
TablesFixOutcomes =
    (table : Table) (plan : PlanOf) (s : State) (trail : List Event) → IsAnswered (IsAnswer allows_all (TableGives table)) plan s trail → IsUnrefused table plan s trail →
    IsFixed plan (given_by plan.inventory table) s trail
