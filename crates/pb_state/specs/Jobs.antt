-- The job of the next item of the task that a host runs, and where it goes: it is read off the host's row, its play and the place.
use Rattle.std.specs.Prelude.{ℕ, List, [], Option, Some, None, option_map, unwrap_or, slice_get}
use Rattle.std.specs.Option.{option_map_or}
use Rattle.pb_ids.specs.declared.numbers.HostNo.{HostNo}
use Rattle.pb_ids.specs.declared.numbers.Ticket.{Ticket}
use Rattle.pb_tree.specs.Tree.{path_at}
use Rattle.pb_places.specs.Place.{PlaceOf}
use Rattle.pb_play.specs.Retrying.{delay_before}
use Rattle.pb_inventory.specs.InventoryOf.{InventoryOf}
use Rattle.pb_variables.specs.Connector.{connector_of}
use Rattle.pb_outcome.specs.declared.job.Call.{Call}
use Rattle.pb_outcome.specs.declared.job.Job.{Job}
use Rattle.pb_outcome.specs.Items.{next_item}
use Rattle.pb_plan.specs.Plan.{PlayOf, PlanOf}
use Rattle.pb_task_vars.specs.Delegates.{host_named}
use Rattle.pb_host.specs.declared.host.Running.{Running}
use Rattle.pb_host.specs.Attempts.{attempt_next}
use Rattle.pb_host.specs.Host.{HostOf}
use Rattle.pb_state.specs.State.{State}
use Rattle.pb_state.specs.Machine.{open_play}
use Rattle.pb_host.specs.Calls.{call_in, delegate_in}

-- which attempt at which item a job is, and how many seconds lie before it
pub record AttemptOf : Type 0 where
  pub item : ℕ
  pub attempt : ℕ
  pub delay : ℕ

-- A job runs on the host itself, by its connector, or on the host that its item is delegated to, by that one's: a name that is no host's has none
-- (Ansible's documentation, "Controlling where tasks run", "Delegating tasks").
abbrev pub connector_named : InventoryOf → List ℕ → List (List ℕ)
connector_named inventory name = option_map_or (connector_of inventory) (host_named inventory name) []

-- the words that connect to where a job runs: the host with this number, or the one with this name where there is a name
abbrev pub connector_for : InventoryOf → ℕ → Option (List ℕ) → List (List ℕ)
connector_for inventory host None = connector_of inventory host
connector_for inventory host (Some name) = connector_named inventory name

-- the job put together; `name` is its host's, `target` the name of the host where it runs, and `path` that of its place in the play's tree
abbrev pub job_with : ℕ → HostNo → Ticket → AttemptOf → Call → List ℕ → List ℕ → List (List ℕ) → List ℕ → Job
job_with play host ticket item call name target connector path =
    record {
      ticket = ticket;
      host = host;
      name = name;
      play = record { 0 = play };
      place = path;
      item = item.item;
      attempt = item.attempt;
      delay = item.delay;
      target = target;
      connector = connector;
      call = call;
    }

-- the job of an attempt, run on the host itself or on the delegate if there is one; none for a number that is no host's
abbrev pub named_job : PlanOf → ℕ → HostNo → Ticket → AttemptOf → Option (List ℕ) → Call → List ℕ → Option Job
named_job plan play host ticket item delegate call path =
    option_map (λ name. job_with play host ticket item call name (unwrap_or delegate name) (connector_for plan.inventory host.0 delegate) path)
    (slice_get plan.inventory.hosts host.0)

-- the job of an attempt at the place p of the play with this number; none where the play's tree has no such place
abbrev pub placed_job : PlanOf → ℕ → HostNo → Ticket → PlayOf → ℕ → AttemptOf → Option (List ℕ) → Call → Option Job
placed_job plan number host ticket play p item delegate call = option_map_or (named_job plan number host ticket item delegate call) (path_at play.tree p) None

-- how long an attempt at an item of the task at a place waits
abbrev pub delay_at : PlayOf → ℕ → ℕ → ℕ
delay_at play p attempt = option_map_or (λ (place : PlaceOf). delay_before place.task.retrying attempt) (slice_get play.places p) 0

-- the attempt at the item with this number of a task that a host runs
abbrev pub next_attempt : PlayOf → Running → ℕ → AttemptOf
next_attempt play r n = record { item = n; attempt = attempt_next r.items; delay = delay_at play r.place (attempt_next r.items) }

-- the job of the item with the number n of the task that a host runs; none where nothing is to be sent for it
abbrev pub item_job : PlanOf → ℕ → HostNo → Ticket → PlayOf → Running → ℕ → Option Job
item_job plan number host ticket play r n = option_map_or (placed_job plan number host ticket play r.place (next_attempt play r n) (delegate_in r.items n)) (call_in r.items n) None

-- the job of the next item of that task; none where no item is to be sent
abbrev pub running_job : PlanOf → ℕ → HostNo → Ticket → PlayOf → Running → Option Job
running_job plan number host ticket play r = option_map_or (item_job plan number host ticket play r) (next_item r.items) None

-- the job of a host by its row; none where it runs nothing
abbrev pub row_job : PlanOf → ℕ → HostNo → Ticket → PlayOf → HostOf → Option Job
row_job plan number host ticket play row = option_map_or (running_job plan number host ticket play) row.running None

-- the same by the host's number, in the open play of a state; none where there is no such host
abbrev pub job_in : PlanOf → State → HostNo → Ticket → PlayOf → Option Job
job_in plan s host ticket play = option_map_or (row_job plan s.play host ticket play) (slice_get s.rows host.0) None

-- the job of a host, under a ticket
abbrev pub job_of : PlanOf → State → HostNo → Ticket → Option Job
job_of plan s host ticket = option_map_or (job_in plan s host ticket) (open_play plan s) None
