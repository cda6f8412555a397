-- The steps of a run: what may happen in a state, and what it leads to
-- (Ansible's documentation, "Controlling playbook execution: strategies and more").
use Rattle.std.specs.Prelude.{ℕ, ◌+◌, ◌==◌, nat_le, Bool, true, false, ◌&&◌, ◌||◌, not, List, [], map, drop, length, Option, Some, None, is_some, is_none, slice_get, slice_set, replicate, if◌then◌else◌}
use Rattle.std.specs.List.{list_any}
use Rattle.std.specs.Simd.Lanes.{zip2}
use Rattle.std.specs.Option.{option_map_or}
use Rattle.pb_ids.specs.declared.numbers.Ticket.{Ticket}
use Rattle.pb_planes.specs.Set.{is_in as is_member}
use Rattle.pb_tree.specs.Tree.{size_of}
use Rattle.pb_inventory.specs.InventoryOf.{InventoryOf}
use Rattle.pb_facts.specs.Facts.{FactsOf, no_facts}
use Rattle.pb_outcome.specs.declared.item.Item.{Item}
use Rattle.pb_outcome.specs.declared.job.Report.{Report}
use Rattle.pb_outcome.specs.Items.{numbered}
use Rattle.pb_task_vars.specs.Results.{items_at}
use Rattle.pb_task_vars.specs.WithHostvars.{seen_with}
use Rattle.pb_batches.specs.Sizes.{batch_sizes}
use Rattle.pb_plan.specs.Plan.{PlayOf, PlanOf}
use Rattle.pb_strategies.specs.declared.strategy.Strategy.{Strategy}
use Rattle.pb_strategies.specs.MayStart.{may_start, turn_ready, is_linear, ready as starting}
use Rattle.pb_state.specs.declared.event.Event.{Event}
use Rattle.pb_state.specs.declared.event.Event.TheVariants.{Open, Start, Send, Report as Reported, Turn, Close, Stop, Forks}
use Rattle.pb_hosts.specs.Batches.{has_batch_left, play_host_count, joined_first}
use Rattle.pb_host.specs.Host.{HostOf, first_rows, next_place, sent, reported, as_play_begins, left, progressed}
use Rattle.pb_state.specs.State.{State}
use Rattle.pb_state.specs.Strategies.{view_of}
use Rattle.pb_hosts.specs.Turn.{BatchOf, turned_by}
use Rattle.pb_host.specs.Runs.{is_in, is_running, has_send, may_send_item, awaits, item_of, attempt_of}
use Rattle.pb_host.specs.StepResults.{step_result_with, report_result}
use Rattle.pb_hosts.specs.Hosts.{at_row, least_place, first_play, change, pending_in}
use Rattle.pb_hosts.specs.Giving.{with_delegated, gifts_at, report_gives}

-- the play whose batch is open
abbrev pub open_play : PlanOf → State → Option PlayOf
open_play plan s = if s.is_open then slice_get plan.plays s.play else None

-- two places are the same one: where either of them or both are none they are not
abbrev pub same_place : Option ℕ → Option ℕ → Bool
same_place (Some p) (Some q) = p == q
same_place (Some p) None = false
same_place None q = false

-- the number of the item that a host sends next, or whose job is out; none where it runs nothing, or is no host
abbrev pub item_at : State → ℕ → Option ℕ
item_at s h = option_map_or item_of (slice_get s.rows h) None

-- which attempt at that item this is, from 1; 1 too where a host runs nothing, or is no host
abbrev pub attempt_at : State → ℕ → ℕ
attempt_at s h = option_map_or attempt_of (slice_get s.rows h) 1

-- the play that begins next: those without hosts are passed over
-- (Ansible's documentation, "Patterns: targeting hosts and groups")
abbrev pub next_play : PlanOf → State → Option ℕ
next_play plan s = first_play s.rows s.play (drop s.play plan.plays)

-- a batch is left: of the play that goes on, or of one that is still to begin
abbrev pub is_left : PlanOf → State → Bool
is_left plan s = if has_batch_left s.sizes_left then is_some (slice_get plan.plays s.play) else is_some (next_play plan s)

-- the next batch may open: the run wasn't stopped and didn't end early, no batch is open, and one is left
abbrev pub may_open : PlanOf → State → Bool
may_open plan s = not s.stopped && not s.is_open && not s.ended && is_left plan s

-- in the open play the host with this number may start the task at its next place
abbrev pub may_start_in : State → ℕ → PlayOf → Bool
may_start_in s h play = may_start (view_of s play) h

-- the host with the first number may send this attempt at this item under this ticket, which is the next; in a stopped run none may
abbrev pub may_send_in : State → ℕ → ℕ → ℕ → Ticket → PlayOf → Bool
may_send_in s h item attempt ticket play = not s.stopped && (ticket.0 == s.sends) && at_row (may_send_item item attempt) s.rows h

-- a report may come of a job that is out: of its host, its item, its attempt and its ticket, also in a stopped run
abbrev pub may_report_in : State → Report → PlayOf → Bool
may_report_in s r play = at_row (awaits r.ticket r.item r.attempt) s.rows r.host.0

-- a linear batch may go on from its current place: no host runs, none may start, and the run isn't stopped
abbrev pub may_turn_in : State → PlayOf → Bool
may_turn_in s play = turn_ready (view_of s play)

-- the batch may close: no host runs or has a next place, there is no current place, and the run isn't stopped
abbrev pub may_close_in : State → PlayOf → Bool
may_close_in s play = not s.stopped && is_none s.place && not (list_any is_running s.rows) && is_none (least_place s.rows)

-- what may happen
abbrev pub possible : PlanOf → State → Event → Bool
possible plan s Open = may_open plan s
possible plan s (Start h) = option_map_or (may_start_in s h.0) (open_play plan s) false
possible plan s (Send h item attempt ticket) = option_map_or (may_send_in s h.0 item attempt ticket) (open_play plan s) false
possible plan s (Reported r) = option_map_or (may_report_in s r) (open_play plan s) false
possible plan s Turn = option_map_or (may_turn_in s) (open_play plan s) false
possible plan s Close = option_map_or (may_close_in s) (open_play plan s) false
possible plan s Stop = true
possible plan s (Forks n) = nat_le 1 n && nat_le n s.pool

-- the hosts that have a send or a start; in a run that is stopped none has a send
abbrev pub with_sends : Bool → List HostOf → List Bool → List Bool
with_sends stopped rows starts = if stopped then starts else zip2 (λ (a b : Bool). a || b) starts (map has_send rows)

-- the hosts that may start a task or send a job, in the open play
abbrev pub ready_in : State → PlayOf → List Bool
ready_in s play = with_sends s.stopped s.rows (starting (view_of s play))

-- of each host whether it may start a task or send a job: none may while no batch is open
abbrev pub ready : PlanOf → State → List Bool
ready plan s = option_map_or (ready_in s) (open_play plan s) (replicate (length s.rows) false)

-- of each handler of the play whether it is pending on this host; an empty list for a number that is no host's
abbrev pub pending_at : State → ℕ → List Bool
pending_at s h = pending_in s.rows h

-- what each event leads to
-- under the linear strategy the hosts of a batch go from place to place together, and else there is no current place
abbrev pub first_by : Strategy → List HostOf → Option ℕ
first_by strategy rows = if is_linear strategy then least_place rows else None

abbrev pub with_place : Option ℕ → State → State
with_place place s = record s { place = place }

-- a batch of a play is open, with these sizes of those behind it
abbrev pub opened_with : State → ℕ → ℕ → List ℕ → List HostOf → PlayOf → State
opened_with s n batch sizes_left rows play =
    record s {
      rows = rows;
      play = n;
      batch = batch;
      sizes_left = sizes_left;
      is_open = true;
      place = first_by play.strategy rows;
      begun = replicate (size_of play.tree) false;
      step_result = None;
    }

-- the first of the batches of these sizes opens
abbrev pub opened_by : State → ℕ → ℕ → List ℕ → List HostOf → PlayOf → ℕ → State
opened_by s n batch sizes rows play size = opened_with s n batch (drop 1 sizes) (joined_first play.tree size rows) play

-- a batch opens, of the first of these sizes; where there is no size the state stays as it is
abbrev pub opened : State → ℕ → ℕ → List ℕ → List HostOf → PlayOf → State
opened s n batch sizes rows play = option_map_or (opened_by s n batch sizes rows play) (slice_get sizes 0) s

-- the play goes on with its next batch
abbrev pub goes_on : State → PlayOf → State
goes_on s play = opened s s.play (s.batch + 1) s.sizes_left s.rows play

-- a play begins: its hosts are those of its own that are active now
abbrev pub begins : State → ℕ → PlayOf → State
begins s n play = opened s n 0 (batch_sizes play.serial (play_host_count play.hosts s.rows)) (map (as_play_begins play.hosts) s.rows) play

-- the play with this number begins; where there is none the state stays as it is
abbrev pub begins_at : PlanOf → State → ℕ → State
begins_at plan s n = option_map_or (begins s n) (slice_get plan.plays n) s

-- the next batch opens: of the play that goes on, where it has one left, or else the first of the next play that has hosts
abbrev pub after_open : PlanOf → State → State
after_open plan s =
    if has_batch_left s.sizes_left then option_map_or (goes_on s) (slice_get plan.plays s.play) s
    else option_map_or (begins_at plan s) (next_play plan s) s

-- the host h starts the task at the place p with these items, and ends it at once where they leave nothing to be sent
abbrev pub start_with : InventoryOf → State → ℕ → PlayOf → ℕ → List Item → State
start_with inventory s h play p items =
    record s {
      rows = with_delegated (gifts_at inventory play p h items) (change s.rows h (progressed inventory play p items));
      begun = slice_set s.begun p true;
      step_result = Some (step_result_with play p (pending_at s h) (not (is_member s.begun p)) (numbered 0 items) items);
    }

-- what a host has learnt; there is nothing of a number that is no host's
abbrev pub facts_at : State → ℕ → FactsOf
facts_at s h = option_map_or (λ (row : HostOf). row.facts) (slice_get s.rows h) no_facts

-- what the hosts have learnt, and the plan as tasks see it then
abbrev pub learnt_by : List HostOf → List FactsOf
learnt_by rows = map (λ (row : HostOf). row.facts) rows

abbrev pub plan_seen : PlanOf → State → PlanOf
plan_seen plan s = seen_with plan (learnt_by s.rows)

-- the host h starts the task at the place p: its items are made with what the hosts have learnt so far
abbrev pub start_at : PlanOf → State → ℕ → PlayOf → ℕ → State
start_at plan s h play p = start_with plan.inventory s h play p (items_at (plan_seen plan s) play h (facts_at s h) p)

-- the next place of a host
abbrev pub next_at : State → ℕ → Option ℕ
next_at s h = option_map_or next_place (slice_get s.rows h) None

-- the host starts the task at its next place; where it has none the state stays as it is
abbrev pub started_in : PlanOf → State → ℕ → PlayOf → State
started_in plan s h play = option_map_or (start_at plan s h play) (next_at s h) s

-- the job of a host goes out under this ticket, and is one more that was sent
abbrev pub sent_in : State → ℕ → Ticket → PlayOf → State
sent_in s h ticket play = record s { rows = change s.rows h (sent ticket); sends = s.sends + 1; step_result = None }

-- a report, where tasks see the plan so
abbrev pub reported_seen : PlanOf → State → Report → PlayOf → State
reported_seen plan s r play =
    record s {
      rows = with_delegated (report_gives plan play r.outcome r.host.0 s.rows) (change s.rows r.host.0 (reported plan play r.outcome));
      step_result = option_map_or (report_result plan play r.outcome) (slice_get s.rows r.host.0) None;
    }

-- a report of a job comes back: the host's task goes on, or ends
abbrev pub reported_in : PlanOf → State → Report → PlayOf → State
reported_in plan s r play = reported_seen (plan_seen plan s) s r play

-- the third part of a turn: the current place becomes the least next place of the batch
abbrev pub moved : State → BatchOf → State
moved s batch = record s { rows = batch.rows; sizes_left = batch.sizes_left; place = least_place batch.rows; step_result = None }

-- the rows of all hosts, and the sizes of the batches of the play that come behind this one
abbrev pub batch_of : State → BatchOf
batch_of s = record { rows = s.rows; sizes_left = s.sizes_left }

-- a state with these rows and later batches
abbrev pub with_batch : BatchOf → State → State
with_batch batch s = record s { rows = batch.rows; sizes_left = batch.sizes_left }

-- the whole turn: what one host did for all goes to the others, hosts are halted where failures ask for it, and the place moves on
abbrev pub turned_in : InventoryOf → State → PlayOf → State
turned_in inventory s play = moved s (turned_by inventory play (batch_of s) s.place)

-- the number of the play to which a batch of this one leads: the play goes on where batches of it are left
abbrev pub play_behind : Bool → ℕ → ℕ
play_behind goes_on play = if goes_on then play else play + 1

-- the batch closes: its hosts wait no more, and where none of them is active the run ends early; the next play is due where no batch is left
abbrev pub closed : State → State
closed s =
    record s {
      rows = map left s.rows;
      play = play_behind (has_batch_left s.sizes_left) s.play;
      is_open = false;
      begun = [];
      ended = not (list_any is_in s.rows);
      step_result = None;
    }

-- the run is commanded to stop
abbrev pub stopped : State → State
stopped s = record s { stopped = true; step_result = None }

-- from now on so many hosts may run at once
abbrev pub with_forks : State → ℕ → State
with_forks s n = record s { forks = n; step_result = None }

-- the state to which an event leads, where it is possible; a start, a send, a report or a turn changes nothing where no batch is open
abbrev pub after : PlanOf → State → Event → State
after plan s Open = after_open plan s
after plan s (Start h) = option_map_or (started_in plan s h.0) (open_play plan s) s
after plan s (Send h item attempt ticket) = option_map_or (sent_in s h.0 ticket) (open_play plan s) s
after plan s (Reported r) = option_map_or (reported_in plan s r) (open_play plan s) s
after plan s Turn = option_map_or (turned_in plan.inventory s) (open_play plan s) s
after plan s Close = closed s
after plan s Stop = stopped s
after plan s (Forks n) = with_forks s n

-- the state before any event: no play has begun; the first number is that of the forks, the second that of the workers
abbrev pub first_state : PlanOf → ℕ → ℕ → State
first_state plan forks pool =
    record {
      rows = first_rows 0 (length plan.inventory.hosts);
      play = 0;
      batch = 0;
      sizes_left = [];
      is_open = false;
      place = None;
      begun = [];
      forks = forks;
      pool = pool;
      sends = 0;
      stopped = false;
      ended = false;
      step_result = None;
    }
