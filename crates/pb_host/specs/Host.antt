-- What the state keeps of one host, and what a step does to it alone.
use Rattle.std.specs.Prelude.{ℕ, zero, suc, ◌+◌, Bool, true, false, ◌&&◌, ◌||◌, not, List, [], ◌∷◌, ◌++◌, Option, Some, None, option_map, slice_get, slice_index_or, if◌then◌else◌, ◌==◌}
use Rattle.std.specs.Option.{option_map_or}
use Rattle.pb_ids.specs.declared.numbers.Ticket.{Ticket}
use Rattle.pb_planes.specs.Set.{is_in as is_member}
use Rattle.pb_inventory.specs.InventoryOf.{InventoryOf}
use Rattle.pb_conditions.specs.declared.attempt.Back.{Back}
use Rattle.pb_tree.specs.declared.tree.Status.{Status}
use Rattle.pb_tree.specs.declared.tree.Status.TheVariants as stays
use Rattle.pb_tree.specs.declared.tree.Reach.{Reach}
use Rattle.pb_tree.specs.declared.tree.Reach.TheVariants.{At, Done}
use Rattle.pb_tree.specs.Tree.{TreeOf, Nothing}
use Rattle.pb_tree.specs.Answer.{AnswerOf}
use Rattle.pb_tree.specs.Walk.{reach, status_now, marks_of}
use Rattle.pb_outcome.specs.declared.item.Item.{Item}
use Rattle.pb_outcome.specs.declared.job.Call.{Call}
use Rattle.pb_outcome.specs.declared.outcome.Form.{Form}
use Rattle.pb_facts.specs.Facts.{FactsOf, no_facts}
use Rattle.pb_outcome.specs.Items.{task_of, is_over, result_of}
use Rattle.pb_outcome.specs.Results.{judged}
use Rattle.pb_task_vars.specs.FromPlaces.{PlaceOf}
use Rattle.pb_play.specs.declared.modules.Meta.{Meta}
use Rattle.pb_play.specs.declared.modules.Module.{Module}
use Rattle.pb_play.specs.declared.modules.Module.TheVariants.{Meta as CalledMeta}
use Rattle.pb_task_vars.specs.FromPlan.{PlayOf, PlanOf, run_once_of}
use Rattle.pb_task_vars.specs.Learning.{facts_after_end}
use Rattle.pb_task_vars.specs.Results.{came_at, variable_at}
use Rattle.pb_host.specs.Attempts.{attempt_after, back_in}
use Rattle.pb_host.specs.Ends.{kind_of, answer_of, breaks, counted}
use Rattle.pb_host.specs.Handlers.{notified_by}
use Rattle.pb_host.specs.declared.step_result.TaskEnd.{TaskEnd}
use Rattle.pb_host.specs.declared.host.Counts.{Counts}
use Rattle.pb_host.specs.declared.host.LastTask.{LastTask}
use Rattle.pb_host.specs.declared.host.Running.{Running}

-- the row of one host: what the state keeps of it
pub record HostOf : Type 0 where
  -- the host's number
  pub host : ℕ
  -- the tree of the play in whose batch the host is; it is empty where the host is in none
  pub tree : TreeOf
  -- what the host answered in the open batch, place after place
  pub answers : List AnswerOf
  pub status : Status
  pub in_batch : Bool
  -- whether the host is one of those of the play that goes on whose batch hasn't closed
  pub awaits_batch : Bool
  -- whether the host failed in the open batch where nothing caught or ignored that
  pub is_broken : Bool
  -- the task that the host runs: some item of it is still to come back
  pub running : Option Running
  -- the task that the host finished last in the open batch
  pub last : Option LastTask
  -- what the host has learnt: the layers 4 and 9 of the variables that its tasks see
  pub facts : FactsOf
  -- how its finished tasks count in the recap
  pub counts : Counts

-- the counts of a host that has finished no task yet
abbrev pub none_counted : Counts
none_counted = record { ok = 0; changed = 0; unreachable = 0; failed = 0; skipped = 0; rescued = 0; ignored = 0 }

-- the tree of a host that is in no batch: it has no place and no handler
abbrev pub no_tree : TreeOf
no_tree = record { nodes = Nothing; handlers = 0; force_handlers = false }

-- the row of the host with this number as a run begins: it is active, in no batch, runs nothing and has learnt nothing
abbrev pub first_row : ℕ → HostOf
first_row host =
    record { host = host; tree = no_tree; answers = []; status = stays.Active; in_batch = false; awaits_batch = false; is_broken = false; running = None; last = None; facts = no_facts; counts = none_counted }

-- this many hosts, whose first has the number h
abbrev pub first_rows : ℕ → ℕ → List HostOf
first_rows h zero = []
first_rows h (suc n) = first_row h ∷ first_rows (h + 1) n

-- a host that neither failed, was halted nor is gone; any other one is out for the rest of the playbook
abbrev pub is_active : Status → Bool
is_active stays.Active = true
is_active stays.Failed = false
is_active stays.Halted = false
is_active stays.Gone = false

-- the next place of a host of the batch: where its answers lead it in its play's tree
abbrev pub place_of : Reach → Option ℕ
place_of (At p) = Some p
place_of (Done ending) = None

-- none where the host is in no batch, or at the end of its play
abbrev pub next_place : HostOf → Option ℕ
next_place row = if row.in_batch then place_of (reach row.tree row.answers) else None

-- the next place of a host is this one
abbrev pub is_at : ℕ → HostOf → Bool
is_at p row = option_map_or (λ q. q == p) (next_place row) false

-- of each handler of the play whether it is pending on a host; none is on a host that is in no batch
abbrev pub pending : HostOf → List Bool
pending row = marks_of row.tree row.answers

-- one answer more: a host whose walk went bad is out at once, also while handlers run that are forced
abbrev pub answered : AnswerOf → HostOf → HostOf
answered answer row = record row { answers = row.answers ++ answer ∷ []; status = status_now row.tree (row.answers ++ answer ∷ []) }

-- a task ends so, with these handlers notified, after which the host knows this, and keeps this of it
abbrev pub finished : LastTask → TaskEnd → List ℕ → FactsOf → HostOf → HostOf
finished finish task notified facts row =
    record (answered (answer_of task notified) row) {
      is_broken = row.is_broken || breaks task.is_caught (kind_of task);
      running = None;
      last = Some finish;
      facts = facts;
      counts = counted task row.counts;
    }

-- what a place says of the task that ends there: whether its failure is ignored, whether that is caught, and which task of `meta` it is; a place
-- without a task says nothing
abbrev pub ignores_at : PlayOf → ℕ → Bool
ignores_at play p = option_map_or (λ (place : PlaceOf). place.ignore_errors) (slice_get play.places p) false

abbrev pub caught_at : PlayOf → ℕ → Bool
caught_at play p = option_map_or (λ (place : PlaceOf). place.is_caught) (slice_get play.places p) false

-- which task of `meta` a module is; none of any other module
abbrev pub meta_in : Module → Option Meta
meta_in (CalledMeta which) = Some which
meta_in other = None

abbrev pub meta_at : PlayOf → ℕ → Option Meta
meta_at play p = option_map_or (λ (place : PlaceOf). meta_in place.task.«module») (slice_get play.places p) None

-- how the task at a place ended, by its items
abbrev pub task_at : PlayOf → ℕ → List Item → TaskEnd
task_at play p items = record { result = task_of (ignores_at play p) items; is_caught = caught_at play p; meta = meta_at play p }

-- What is kept of a task that ended: its place, what the host answered there, and where the first host of a batch runs it for all its items, off which
-- what goes to the other hosts is read.
abbrev pub runs_once_at : PlayOf → ℕ → Bool
runs_once_at play p = slice_index_or (run_once_of play.places) p false

-- all items of a task that runs once, and none of one that each host runs
abbrev pub kept_items : Bool → List Item → List Item
kept_items once items = if once then items else []

-- what is kept of the task at a place that ended with these items
abbrev pub finish_at : PlayOf → ℕ → List Item → LastTask
finish_at play p items = record { place = p; kind = kind_of (task_at play p items); items = kept_items (runs_once_at play p) items }

-- what a host knows once the task at a place has ended with these items: the one that started it, or none, where another one gets what was done for all
abbrev pub facts_after : InventoryOf → PlayOf → ℕ → (starter : Option ℕ) → List Item → FactsOf → FactsOf
facts_after inventory play p starter items facts = facts_after_end inventory play p starter (task_at play p items).result (result_of (variable_at play p) items) items facts

-- the task at a place ends with these items
abbrev pub ended : InventoryOf → PlayOf → ℕ → List Item → HostOf → HostOf
ended inventory play p items row =
    finished (finish_at play p items) (task_at play p items) (notified_by play p (task_at play p items)) (facts_after inventory play p (Some row.host) items row.facts) row

-- the task at a place has come to these items: it goes on, or ends
abbrev pub progressed : InventoryOf → PlayOf → ℕ → List Item → HostOf → HostOf
progressed inventory play p items row =
    if is_over items then ended inventory play p items row
    else record row { running = Some (record { place = p; items = items; out = None }) }

-- a job goes out under this ticket
abbrev pub sent_running : Ticket → Running → Running
sent_running ticket r = record r { out = Some ticket }

-- the same of a host's row; a host that runs nothing stays as it is
abbrev pub sent : Ticket → HostOf → HostOf
sent ticket row = record row { running = option_map (sent_running ticket) row.running }

-- What an attempt at an item of the task at a place comes to, once its job that is out came to this: it is judged, and then it is what the task says of
-- it, in the scope that the host has then (Ansible's documentation, "Error handling in playbooks" and "Retrying a task until a condition is met").
abbrev pub came_back : PlanOf → PlayOf → ℕ → FactsOf → ℕ → Form → Item → Call → Back
came_back plan play host facts p outcome item call = came_at plan play host facts p item.value (attempt_after item.tried) (judged call outcome)

-- the items of the task that this host runs, once its job came to this: the first one that waits has its result, or waits for its next attempt
abbrev pub items_after : PlanOf → PlayOf → ℕ → FactsOf → Form → Running → List Item
items_after plan play host facts outcome r = back_in (came_back plan play host facts r.place outcome) r.items

-- a host that runs this, once its job came to this: its task goes on, or ends
abbrev pub reported_running : PlanOf → PlayOf → Form → HostOf → Running → HostOf
reported_running plan play outcome row r = progressed plan.inventory play r.place (items_after plan play row.host row.facts outcome r) row

-- the job that is out came to this
abbrev pub reported : PlanOf → PlayOf → Form → HostOf → HostOf
reported plan play outcome row = option_map_or (reported_running plan play outcome row) row.running row

-- one of a play's own hosts that is active; none is one of them beyond their end
abbrev pub is_play_host : List Bool → HostOf → Bool
is_play_host hosts row = is_member hosts row.host && is_active row.status

-- a host as a play begins: it waits for its batch where it is one of the play's own and active
abbrev pub as_play_begins : List Bool → HostOf → HostOf
as_play_begins hosts row = record row { awaits_batch = is_play_host hosts row }

-- one of the hosts of the play that goes on whose batch hasn't closed, be it open or not
abbrev pub is_waiting : HostOf → Bool
is_waiting row = row.awaits_batch

-- a host as a batch of a play opens that has this tree, in which it takes part or not
abbrev pub joined : TreeOf → Bool → HostOf → HostOf
joined tree inside row = record row { tree = if inside then tree else no_tree; answers = []; in_batch = inside; is_broken = false; running = None; last = None }

-- a host as the batch closes: it waits no more where it was in it
abbrev pub left : HostOf → HostOf
left row = record row { tree = no_tree; answers = []; in_batch = false; awaits_batch = row.awaits_batch && not row.in_batch; is_broken = false; running = None; last = None }

-- a host knows this
abbrev pub knows : FactsOf → HostOf → HostOf
knows facts row = record row { facts = facts }
