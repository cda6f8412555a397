-- The lines of an event, of the state after it (Ansible's documentation, "Callback plugins": a line has the name of the callback that Ansible calls there).
use Rattle.std.specs.Prelude.{ℕ, pos, Bool, true, false, List, [], ◌∷◌, ◌++◌, codes, map, slice_get, Option, Some, None, if◌then◌else◌}
use Rattle.std.specs.Option.{option_map_or}
use Rattle.pb_value.specs.Datum.{Datum, text, int, boolean, list, items_of}
use Rattle.pb_ids.specs.Dotted.{dotted}
use Rattle.pb_tree.specs.Tree.{path_at}
use Rattle.pb_places.specs.Place.{PlaceOf}
use Rattle.pb_play.specs.Modules.{is_meta}
use Rattle.pb_state.specs.declared.event.Event.{Event}
use Rattle.pb_state.specs.declared.event.Event.TheVariants.{Open, Start, Send, Report as Reported, Turn, Close, Stop, Forks}
use Rattle.pb_host.specs.declared.step_result.StepResult.{StepResult}
use Rattle.pb_host.specs.declared.step_result.TaskDone.{TaskDone}
use Rattle.pb_host.specs.declared.step_result.Retried.{Retried}
use Rattle.pb_plan.specs.Plan.{PlayOf, PlanOf}
use Rattle.pb_state.specs.State.{State}
use Rattle.pb_events.specs.Line.{line, at_host, at_end}
use Rattle.pb_events.specs.Batch.{batch_names}
use Rattle.pb_events.specs.Items.{item_lines}
use Rattle.pb_events.specs.Notify.{notify_text}

-- before all events: how many plays there are
abbrev pub start_line : ℕ → List ℕ
start_line plays = line ((codes "event", text (codes "playbook_on_start")) ∷ (codes "plays", int (pos plays)) ∷ [])

-- a batch of a play opens, with its number in the play
abbrev pub play_start : ℕ → ℕ → List ℕ → List Datum → List ℕ
play_start play batch name hosts =
    line
    ((codes "batch", int (pos batch)) ∷ (codes "event", text (codes "playbook_on_play_start")) ∷ (codes "hosts", list (items_of hosts))
    ∷ (codes "name", text name) ∷ (codes "play", int (pos play)) ∷ [])

-- a task, or a handler, starts on the first host of the batch
abbrev pub start_event : Option ℕ → List ℕ
start_event None = codes "playbook_on_task_start"
start_event (Some handler) = codes "playbook_on_handler_task_start"

-- the line of that start: with the task's name, its place, and the number of its play
abbrev pub task_start : List ℕ → List ℕ → List ℕ → ℕ → List ℕ
task_start event name place play =
    line ((codes "event", text event) ∷ (codes "name", text name) ∷ (codes "place", text place) ∷ (codes "play", int (pos play)) ∷ [])

-- a host starts a task
abbrev pub host_start : List ℕ → List ℕ → ℕ → List ℕ
host_start host place play = line (at_host (codes "runner_on_start") host place play)

-- a host's task ended in this way: unreachable, skipped or well
abbrev pub host_end : List ℕ → List ℕ → List ℕ → ℕ → Datum → List ℕ
host_end event host place play result = line (at_end event host place play result)

-- or it failed: its line says too whether that is ignored
abbrev pub host_failed : Bool → List ℕ → List ℕ → ℕ → Datum → List ℕ
host_failed ignored host place play result =
    line
    ((codes "event", text (codes "runner_on_failed")) ∷ (codes "host", text host) ∷ (codes "ignored", boolean ignored) ∷ (codes "place", text place)
    ∷ (codes "play", int (pos play)) ∷ (codes "result", result) ∷ [])

-- the line of a task's result: a host that can't be reached comes first, then a failure, then what was left out
abbrev pub result_line : List ℕ → List ℕ → ℕ → TaskDone → List ℕ
result_line host place play done =
    if done.task.result.unreachable then host_end (codes "runner_on_unreachable") host place play done.result
    else (if done.task.result.failed then host_failed done.task.result.ignored host place play done.result
    else (if done.task.result.skipped then host_end (codes "runner_on_skipped") host place play done.result
    else host_end (codes "runner_on_ok") host place play done.result))

-- none as long as the task waits for a job
abbrev pub done_text : List ℕ → List ℕ → ℕ → Option TaskDone → List ℕ
done_text host place play None = []
done_text host place play (Some done) = result_line host place play done

-- an attempt came back behind which another one comes
abbrev pub retry_line : List ℕ → List ℕ → ℕ → Retried → List ℕ
retry_line host place play retried =
    line
    ((codes "attempt", int (pos retried.attempt)) ∷ (codes "event", text (codes "runner_retry")) ∷ (codes "host", text host) ∷ (codes "place", text place)
    ∷ (codes "play", int (pos play)) ∷ (codes "result", retried.result) ∷ [])

-- none where no attempt came back, or no other one comes behind it
abbrev pub retried_text : List ℕ → List ℕ → ℕ → Option Retried → List ℕ
retried_text host place play None = []
retried_text host place play (Some retried) = retry_line host place play retried

-- a task of `meta` has no line but that of its failure: its conditions can't be read, which nothing ignores
abbrev pub meta_text : List ℕ → List ℕ → ℕ → Option TaskDone → List ℕ
meta_text host place play None = []
meta_text host place play (Some done) = if done.task.result.failed then host_failed false host place play done.result else []

-- what lines are about: what a step came to for the host with this name, in the play with this number, of the task at the place with this path
pub record SiteOf : Type 0 where
  pub play : PlayOf
  pub number : ℕ
  pub host : List ℕ
  pub place : PlaceOf
  pub path : List ℕ
  pub step_result : StepResult

-- a place is printed by its path in the play's tree
abbrev pub site_at : PlayOf → ℕ → List ℕ → StepResult → Option PlaceOf → Option (List ℕ) → Option SiteOf
site_at play number host step_result (Some place) (Some path) = Some (record { play = play; number = number; host = host; place = place; path = dotted path; step_result = step_result })
site_at play number host step_result place path = None

-- none where there is no such play or host, or where the last step was about no task
abbrev pub site_in : ℕ → Option PlayOf → Option StepResult → Option (List ℕ) → Option SiteOf
site_in number (Some play) (Some step_result) (Some host) = site_at play number host step_result (slice_get play.places step_result.place) (path_at play.tree step_result.place)
site_in number play step_result host = None

-- of the host with this number, in a state
abbrev pub site_of : PlanOf → State → ℕ → Option SiteOf
site_of plan s h = site_in s.play (slice_get plan.plays s.play) s.step_result (slice_get plan.inventory.hosts h)

-- a start: the task, where the host is the first there, and the host
abbrev pub start_text : SiteOf → List ℕ
start_text site =
    (if site.step_result.is_new then task_start (start_event site.place.handler) site.place.task.name site.path site.number else [])
    ++ host_start site.host site.path site.number

-- what came of a task: the items of a loop, or the attempt that came back, the task's own end, and the handlers that it notified
abbrev pub end_text : SiteOf → List ℕ
end_text site =
    item_lines site.host site.path site.number site.step_result.items ++ retried_text site.host site.path site.number site.step_result.retried
    ++ done_text site.host site.path site.number site.step_result.done ++ notify_text site.host site.play site.number site.step_result.done

-- of a host that started a task
abbrev pub started : SiteOf → List ℕ
started site =
    if is_meta site.place.task.«module» then meta_text site.host site.path site.number site.step_result.done else start_text site ++ end_text site

-- of a host whose report came
abbrev pub came_back : SiteOf → List ℕ
came_back site =
    if is_meta site.place.task.«module» then meta_text site.host site.path site.number site.step_result.done else end_text site

-- of the host with this number: that it started a task, or that its report came
abbrev pub site_lines : Bool → PlanOf → State → ℕ → List ℕ
site_lines true plan s h = option_map_or started (site_of plan s h) []
site_lines false plan s h = option_map_or came_back (site_of plan s h) []

-- the line of the batch that opened in this play, with the names of its hosts
abbrev pub opened_in : PlanOf → State → PlayOf → List ℕ
opened_in plan s play = play_start s.play s.batch play.name (map text (batch_names plan.inventory.hosts s.rows))

-- other events have no lines
abbrev pub lines_of : PlanOf → State → Event → List ℕ
lines_of plan s Open = option_map_or (opened_in plan s) (slice_get plan.plays s.play) []
lines_of plan s (Start h) = site_lines true plan s h.0
lines_of plan s (Send h item attempt ticket) = []
lines_of plan s (Reported r) = site_lines false plan s r.host.0
lines_of plan s Turn = []
lines_of plan s Close = []
lines_of plan s Stop = []
lines_of plan s (Forks n) = []
