-- What tasks tell: a start, a job that goes out, and the report of what came of it.
use Rattle.std.proofs.Common.{◌≡◌, ℕ, zero, suc, ◌+◌, Bool, true, false, ◌&&◌, not, List, [], ◌∷◌, ◌++◌, map, refl, sym, ◌∙◌, ap, subst}
use Rattle.std.specs.Prelude.{Option, Some, None, option_map, slice_get, slice_index_or, is_some, is_none, nat_lt, nat_eq, if◌then◌else◌}
use Rattle.std.specs.Option.{option_map_or}
use Rattle.std.proofs.lemmas.Bool.{eqb-true}
use Rattle.pb_ids.specs.declared.numbers.HostNo.{HostNo}
use Rattle.pb_ids.specs.declared.numbers.Ticket.{Ticket}
use Rattle.pb_inventory.specs.InventoryOf.{InventoryOf}
use Rattle.pb_limits.specs.Counts.{has_room_for, running as count_running, running_at as count_running_at}
use Rattle.pb_outcome.specs.declared.item.Item.{Item}
use Rattle.pb_outcome.specs.declared.job.Report.{Report}
use Rattle.pb_outcome.specs.declared.outcome.Form.{Form}
use Rattle.pb_outcome.specs.Items.{next_item, is_over}
use Rattle.pb_plan.specs.Plan.{PlayOf, PlanOf, throttles_of}
use Rattle.pb_task_vars.specs.Results.{items_at}
use Rattle.pb_strategies.specs.declared.standings.Standing.{Standing}
use Rattle.pb_strategies.specs.Hosts.{is_running as standing_runs, same_place as same_there}
use Rattle.pb_strategies.specs.declared.strategy.Strategy.{Strategy}
use Rattle.pb_strategies.specs.declared.strategy.Strategy.TheVariants.{Linear}
use Rattle.pb_strategies.specs.MayStart.{ViewOf, has_room, has_room_at, suits, may_start_at, may_start_from, is_linear}
use Rattle.pb_tree.specs.Tree.{TreeOf}
use Rattle.pb_tree.specs.Walk.{reach, status_now}
use Rattle.pb_tree.specs.declared.tree.Reach.TheVariants.{At}
use Rattle.pb_host.specs.declared.step_result.TaskDone.{TaskDone}
use Rattle.pb_host.specs.declared.step_result.TaskEnd.{TaskEnd}
use Rattle.pb_host.specs.declared.host.Running.{Running}
use Rattle.pb_host.specs.Attempts.{attempt_next}
use Rattle.pb_host.specs.Ends.{answer_of}
use Rattle.pb_host.specs.Handlers.{notified_by}
use Rattle.pb_host.specs.Runs.{is_running, is_item, may_send_item, sends_running, awaits, awaits_running, is_ticket}
use Rattle.pb_host.specs.StepResults.{report_result, step_result_by, done_at, done_if}
use Rattle.pb_hosts.specs.Giving.{gifts_at, report_gives}
use Rattle.pb_hosts.specs.Hosts.{at_row}
use Rattle.pb_state.specs.Machine.{open_play, next_at, facts_at, plan_seen, start_at, started_in, sent_in, reported_in, pending_at, may_start_in, may_send_in, may_report_in}
use Rattle.pb_state.specs.Once.{running_place, place_run_by}
use Rattle.pb_host.specs.Host.{HostOf, place_of, next_place, is_active, ended, pending, task_at, came_back, items_after, progressed, sent, sent_running, reported, reported_running}
use Rattle.pb_state.specs.State.{State}
use Rattle.pb_host.specs.Standing.{standing}
use Rattle.pb_state.specs.Strategies.{view_of}
use Rattle.pb_hosts.proofs.Giving.{map_same}
use Rattle.pb_state.proofs.StepNumbers.{FoundFrom, RunsFrom, and_left, and_right}
use Rattle.pb_state.proofs.Moves.{IsSound, open_of}
use Rattle.pb_state.proofs.Once.{start_place}
use Rattle.pb_state.proofs.Stands.{stands_at, start_stands, linear_is}
use Rattle.pb_hosts.proofs.Turning.{at_is}
use Rattle.pb_state.proofs.Walked.{stands_in, same_is}
use Rattle.pb_state.proofs.Walks.{IsOfPlan}
use Rattle.pb_laws.specs.History.{HostTask, Happening, Starts, Sends, Reports, at_place, ended_in, ends_if}
use Rattle.pb_laws.specs.Laws.{tree_at}
use Rattle.pb_laws.proofs.ItemTelling.{begin_untried, back_allowed}
use Rattle.pb_laws.proofs.Telling.{Seen, tasks_of, active_of, walked_of, leads, seen, put, task_on, ended_so, left_so, answered_so, active_so, IsStarting, Tells, get_map, put_change, put_same, runs_places, member_in, row_at, changed_seen, play_there, in_tree, tree_there, next_leads, answers_there, all_known, Starting, Sending, Reporting}

-- ---- a task that has come to some items
progressed_running : (inventory : InventoryOf) (play : PlayOf) (p : ℕ) (items : List Item) (row : HostOf) → (progressed inventory play p items row).running ≡ left_so (is_over items) p items
progressed_running inventory play p items row = by_over (is_over items)
  where
    by_over : (over : Bool) → (if over then ended inventory play p items row else record row { running = Some (record { place = p; items = items; out = None }) }).running ≡ left_so over p items
    by_over true = refl
    by_over false = refl

progressed_inside : (inventory : InventoryOf) (play : PlayOf) (p : ℕ) (items : List Item) (row : HostOf) → (progressed inventory play p items row).in_batch ≡ row.in_batch
progressed_inside inventory play p items row = by_over (is_over items)
  where
    by_over : (over : Bool) → (if over then ended inventory play p items row else record row { running = Some (record { place = p; items = items; out = None }) }).in_batch ≡ row.in_batch
    by_over true = refl
    by_over false = refl

progressed_waits : (inventory : InventoryOf) (play : PlayOf) (p : ℕ) (items : List Item) (row : HostOf) → (progressed inventory play p items row).awaits_batch ≡ row.awaits_batch
progressed_waits inventory play p items row = by_over (is_over items)
  where
    by_over : (over : Bool) → (if over then ended inventory play p items row else record row { running = Some (record { place = p; items = items; out = None }) }).awaits_batch ≡ row.awaits_batch
    by_over true = refl
    by_over false = refl

progressed_answers : (inventory : InventoryOf) (play : PlayOf) (p : ℕ) (items : List Item) (row : HostOf)
    → (progressed inventory play p items row).answers ≡ answered_so (is_over items) row.answers (answer_of (task_at play p items) (notified_by play p (task_at play p items)))
progressed_answers inventory play p items row = by_over (is_over items)
  where
    by_over : (over : Bool) → (if over then ended inventory play p items row else record row { running = Some (record { place = p; items = items; out = None }) }).answers
        ≡ answered_so over row.answers (answer_of (task_at play p items) (notified_by play p (task_at play p items)))
    by_over true = refl
    by_over false = refl

-- whether its host is active then
progressed_active : (inventory : InventoryOf) (play : PlayOf) (p h : ℕ) (items : List Item) (tree : TreeOf) (rows : List HostOf) (row : HostOf) → slice_get rows h ≡ Some row → row.tree ≡ tree
    → put (active_of rows) h (is_active (progressed inventory play p items row).status)
    ≡ active_so (is_over items) (active_of rows) h tree row.answers (answer_of (task_at play p items) (notified_by play p (task_at play p items)))
progressed_active inventory play p h items tree rows row there same = by_over (is_over items)
  where
    by_over : (over : Bool) → put (active_of rows) h (is_active (if over then ended inventory play p items row else record row { running = Some (record { place = p; items = items; out = None }) }).status)
        ≡ active_so over (active_of rows) h tree row.answers (answer_of (task_at play p items) (notified_by play p (task_at play p items)))
    by_over true = ap (λ (t : TreeOf). put (active_of rows) h (is_active (status_now t (row.answers ++ answer_of (task_at play p items) (notified_by play p (task_at play p items)) ∷ [])))) same
    by_over false = put_same (active_of rows) h (is_active row.status) (get_map (λ (r : HostOf). is_active r.status) rows h ∙ ap (option_map (λ (r : HostOf). is_active r.status)) there)

reported_inside : (plan : PlanOf) (play : PlayOf) (outcome : Form) (row : HostOf) → (reported plan play outcome row).in_batch ≡ row.in_batch
reported_inside plan play outcome row = by_running row.running
  where
    by_running : (running : Option Running) → (option_map_or (reported_running plan play outcome row) running row).in_batch ≡ row.in_batch
    by_running None = refl
    by_running (Some r) = progressed_inside plan.inventory play r.place (items_after plan play row.host row.facts outcome r) row

reported_waits : (plan : PlanOf) (play : PlayOf) (outcome : Form) (row : HostOf) → (reported plan play outcome row).awaits_batch ≡ row.awaits_batch
reported_waits plan play outcome row = by_running row.running
  where
    by_running : (running : Option Running) → (option_map_or (reported_running plan play outcome row) running row).awaits_batch ≡ row.awaits_batch
    by_running None = refl
    by_running (Some r) = progressed_waits plan.inventory play r.place (items_after plan play row.host row.facts outcome r) row

ends_so : (found : Option PlayOf) (play : PlayOf) (marks : List Bool) (items : List Item) (task : HostTask) → found ≡ Some play
    → ends_if found (option_map (λ (d : TaskDone). d.task) (done_if play task.place marks items)) task
    ≡ ended_so (is_over items) task (task_at play task.place items) (notified_by play task.place (task_at play task.place items))
ends_so found play marks items task e = rw e (by_over (is_over items))
  where
    by_over : (over : Bool) → ends_if (Some play) (option_map (λ (d : TaskDone). d.task) (if over then Some (done_at play task.place marks items) else None)) task
        ≡ ended_so over task (task_at play task.place items) (notified_by play task.place (task_at play task.place items))
    by_over true = refl
    by_over false = refl

-- ---- a start
idle_of : (running : Option Running) → not (is_some running) ≡ true → running ≡ None
idle_of None e = refl
idle_of (Some r) e = cc

standing_at : (test : Standing → Bool) (rows : List HostOf) (h : ℕ) (row : HostOf) → slice_get rows h ≡ Some row → option_map_or test (slice_get (map standing rows) h) false ≡ true → test (standing row) ≡ true
standing_at test [] h row e t = cc
standing_at test (first ∷ rows) zero row e t = let same : first ≡ row = cc in rw (← same) t
standing_at test (first ∷ rows) (suc h) row e t = standing_at test rows h row e t

at_next : (view : ViewOf) (h : ℕ) (host : Standing) (p : ℕ) (next : Option ℕ) → next ≡ Some p → option_map_or (may_start_at view h host) next false ≡ true → may_start_at view h host p ≡ true
at_next view h host p None e t = cc
at_next view h host p (Some q) e t = let same : q ≡ p = cc in rw (← same) t

next_there : (rows : List HostOf) (h p : ℕ) (row : HostOf) → slice_get rows h ≡ Some row → stands_at (Some p) row ≡ true → next_place row ≡ Some p
next_there rows h p row there e =
    let stood = same_is (next_place row) (Some p) (and_right (not (is_running row)) _ e) in
    let one = stood.1 in
    let other = stood.2 in
    cc

suits_place : (view : ViewOf) (h : ℕ) (host : Standing) (p : ℕ) → view.strategy ≡ Linear → suits view.strategy view h host p ≡ true → view.place ≡ Some p
suits_place view h host p linear e =
    by_place view.place (and_left (same_there view.place (Some p)) _ (ap (λ (strategy : Strategy). suits strategy view h host p) (sym linear) ∙ e))
  where
    by_place : (place : Option ℕ) → same_there place (Some p) ≡ true → place ≡ Some p
    by_place None f = cc
    by_place (Some q) f = ap Some (eqb-true q p f)

start_needs : (plan : PlanOf) (s : State) (h p : ℕ) (play : PlayOf) (row : HostOf) → open_play plan s ≡ Some play → may_start_in s h play ≡ true → slice_get s.rows h ≡ Some row → stands_at (Some p) row ≡ true
    → IsOfPlan plan s → IsStarting plan (seen s) h p
start_needs plan s h p play row o may there stands of =
    let here = standing_at (may_start_from (view_of s play) h) s.rows h row there (and_right (has_room (view_of s play)) _ may) in
    let free = at_next (view_of s play) h (standing row) p (next_place row) (next_there s.rows h p row there stands) (and_right (not (standing_runs (standing row))) _ here) in
    let i = stands_in (Some p) row stands in
    record {
      play = play;
      there = play_there plan s play o;
      opened = open_of plan s (may_start_in s h) (Some play) o may;
      idle = get_map (λ (r : HostOf). r.running) s.rows h ∙ ap (option_map (λ (r : HostOf). r.running)) there ∙ ap (λ (running : Option Running). Some running) (idle_of row.running (and_left (not (is_running row)) _ stands));
      inside = member_in s.rows h row there (stands_in (Some p) row stands);
      room = ap (λ (runs : List (Option ℕ)). nat_lt (count_running runs) s.forks) (sym (runs_places s.rows)) ∙ and_right (not s.stopped) _ (and_left (has_room (view_of s play)) _ may);
      throttle = ap (λ (runs : List (Option ℕ)). has_room_for (count_running_at runs p) (slice_index_or (throttles_of play.places) p 0)) (sym (runs_places s.rows)) ∙ and_left (has_room_at (view_of s play) p) _ free;
      answers = row.answers;
      answered = answers_there s.rows h row there;
      at = sym (next_leads plan s.play play s.rows h row (play_there plan s play o) (of play o) there i) ∙ next_there s.rows h p row there stands;
      known = all_known s.rows;
      current = λ linear.
          suits_place (view_of s play) h (standing row) p
          (linear_is play.strategy (sym (ap (λ (found : Option PlayOf). option_map_or (λ (x : PlayOf). is_linear x.strategy) found false) (play_there plan s play o)) ∙ linear)) (and_right (has_room_at (view_of s play) p) _ free);
    }

started : (plan : PlanOf) (s : State) (h p : ℕ) (play : PlayOf) (row : HostOf) (items : List Item) → items ≡ items_at (plan_seen plan s) play h (facts_at s h) p
    → open_play plan s ≡ Some play → may_start_in s h play ≡ true → slice_get s.rows h ≡ Some row → stands_at (Some p) row ≡ true → IsOfPlan plan s
    → Tells plan (seen s) (Starts (task_on (seen s) h p) ∷ ends_if (open_play plan s) (ended_in (start_at plan s h play p).step_result) (task_on (seen s) h p)) (seen (start_at plan s h play p))
unfolding start_needs
started plan s h p play row items are o may there stands of =
    subst (λ (happenings : List Happening). Tells plan (seen s) happenings (seen (start_at plan s h play p))) (sym (tells are))
    (subst (λ (new : Seen). Tells plan (seen s) (Starts (task_on (seen s) h p) ∷ ended_so (is_over items) (task_on (seen s) h p) (task_at play p items) (notified_by play p (task_at play p items))) new) (sym (sees are))
    (Starting (is_over items) h p items (task_at play p items) (notified_by play p (task_at play p items)) (start_needs plan s h p play row o may there stands of) (record { ends = refl; untried = begin_untried (plan_seen plan s) play h (facts_at s h) p items are })))
  where
    tells : items ≡ items_at (plan_seen plan s) play h (facts_at s h) p
        → Starts (task_on (seen s) h p) ∷ ends_if (open_play plan s) (ended_in (start_at plan s h play p).step_result) (task_on (seen s) h p)
        ≡ Starts (task_on (seen s) h p) ∷ ended_so (is_over items) (task_on (seen s) h p) (task_at play p items) (notified_by play p (task_at play p items))
    tells e = rw e (ap (λ (rest : List Happening). Starts (task_on (seen s) h p) ∷ rest) (ends_so (open_play plan s) play (pending_at s h) (items_at (plan_seen plan s) play h (facts_at s h) p) (task_on (seen s) h p) o))

    sees : items ≡ items_at (plan_seen plan s) play h (facts_at s h) p → seen (start_at plan s h play p)
        ≡ record (seen s) { tasks = put (tasks_of s.rows) h (left_so (is_over items) p items); active = active_so (is_over items) (active_of s.rows) h (tree_at plan s.play) row.answers (answer_of (task_at play p items) (notified_by play p (task_at play p items))); walked = put (walked_of s.rows) h (answered_so (is_over items) row.answers (answer_of (task_at play p items) (notified_by play p (task_at play p items)))) }
    sees e =
        rw e
        (changed_seen s (gifts_at plan.inventory play p h (items_at (plan_seen plan s) play h (facts_at s h) p)) h (progressed plan.inventory play p (items_at (plan_seen plan s) play h (facts_at s h) p)) row
        (left_so (is_over (items_at (plan_seen plan s) play h (facts_at s h) p)) p (items_at (plan_seen plan s) play h (facts_at s h) p))
        (active_so (is_over (items_at (plan_seen plan s) play h (facts_at s h) p)) (active_of s.rows) h (tree_at plan s.play) row.answers
        (answer_of (task_at play p (items_at (plan_seen plan s) play h (facts_at s h) p)) (notified_by play p (task_at play p (items_at (plan_seen plan s) play h (facts_at s h) p)))))
        (put (walked_of s.rows) h
        (answered_so (is_over (items_at (plan_seen plan s) play h (facts_at s h) p)) row.answers
        (answer_of (task_at play p (items_at (plan_seen plan s) play h (facts_at s h) p)) (notified_by play p (task_at play p (items_at (plan_seen plan s) play h (facts_at s h) p))))))
        there (progressed_running plan.inventory play p (items_at (plan_seen plan s) play h (facts_at s h) p) row)
        (put_change (λ (r : HostOf). is_active r.status) (progressed plan.inventory play p (items_at (plan_seen plan s) play h (facts_at s h) p)) s.rows h row there
        ∙ progressed_active plan.inventory play p h (items_at (plan_seen plan s) play h (facts_at s h) p) (tree_at plan s.play) s.rows row there
        (in_tree play.tree s.rows h row (of play o) there (stands_in (Some p) row stands) ∙ sym (tree_there plan s.play play (play_there plan s play o))))
        (put_change (λ (r : HostOf). r.answers) (progressed plan.inventory play p (items_at (plan_seen plan s) play h (facts_at s h) p)) s.rows h row there
        ∙ ap (put (walked_of s.rows) h) (progressed_answers plan.inventory play p (items_at (plan_seen plan s) play h (facts_at s h) p) row))
        (progressed_inside plan.inventory play p (items_at (plan_seen plan s) play h (facts_at s h) p)) (progressed_waits plan.inventory play p (items_at (plan_seen plan s) play h (facts_at s h) p)))

start_at_tells : (plan : PlanOf) (s : State) (h : ℕ) (play : PlayOf) (place : Option ℕ) → next_at s h ≡ place → open_play plan s ≡ Some play → may_start_in s h play ≡ true → at_row (stands_at place) s.rows h ≡ true → IsOfPlan plan s
    → Tells plan (seen s) (at_place s.play h place (λ task. Starts task ∷ ends_if (open_play plan s) (ended_in (option_map_or (start_at plan s h play) place s).step_result) task))
    (seen (option_map_or (start_at plan s h play) place s))
start_at_tells plan s h play None n o may stands of = absurd (let at = start_place plan s h (Some play) may in let there = at.1 in cc)
start_at_tells plan s h play (Some p) n o may stands of =
    let at = row_at (stands_at (Some p)) s.rows h stands in
    started plan s h p play at.0 (items_at (plan_seen plan s) play h (facts_at s h) p) refl o may at.1 at.2 of

pub start_tells : (plan : PlanOf) (s : State) (h : ℕ) (found : Option PlayOf) → open_play plan s ≡ found → option_map_or (may_start_in s h) found false ≡ true → IsOfPlan plan s
    → Tells plan (seen s) (at_place s.play h (next_at s h) (λ task. Starts task ∷ ends_if (open_play plan s) (ended_in (option_map_or (started_in plan s h) found s).step_result) task))
    (seen (option_map_or (started_in plan s h) found s))
start_tells plan s h None o may of = cc
start_tells plan s h (Some play) o may of = start_at_tells plan s h play (next_at s h) refl o may (start_stands s h play may) of

-- ---- a job that goes out, and what came of it
pub sends_is : (item attempt : ℕ) (running : Option Running) → option_map_or (sends_running item attempt) running false ≡ true → (r : Running) × (running ≡ Some r) × (r.out ≡ None) × (next_item r.items ≡ Some item) × (attempt_next r.items ≡ attempt)
sends_is item attempt None e = cc
sends_is item attempt (Some r) e = (
  r,
  refl,
  free r.out (and_left (is_none r.out) _ e),
  at_is item (next_item r.items) (and_left (is_item item r.items) _ (and_right (is_none r.out) _ e)),
  eqb-true (attempt_next r.items) attempt (and_right (is_item item r.items) _ (and_right (is_none r.out) _ e)),
)
  where
    free : (out : Option Ticket) → is_none out ≡ true → out ≡ None
    free None f = refl
    free (Some ticket) f = cc

pub awaits_is : (ticket : Ticket) (item attempt : ℕ) (running : Option Running) → option_map_or (awaits_running ticket item attempt) running false ≡ true
    → (r : Running) × (running ≡ Some r) × (option_map (λ (t : Ticket). t.0) r.out ≡ Some ticket.0) × (next_item r.items ≡ Some item)
awaits_is ticket item attempt None e = cc
awaits_is ticket item attempt (Some r) e = (r, refl, under r.out (and_left (is_ticket ticket r.out) _ e), at_is item (next_item r.items) (and_left (is_item item r.items) _ (and_right (is_ticket ticket r.out) _ e)))
  where
    under : (out : Option Ticket) → is_ticket ticket out ≡ true → option_map (λ (t : Ticket). t.0) out ≡ Some ticket.0
    under None f = cc
    under (Some t) f = ap Some (eqb-true t.0 ticket.0 f)

pub task_there : (s : State) (h : ℕ) (row : HostOf) (r : Running) → slice_get s.rows h ≡ Some row → row.running ≡ Some r → slice_get (tasks_of s.rows) h ≡ Some (Some r)
task_there s h row r there runs = get_map (λ (x : HostOf). x.running) s.rows h ∙ ap (option_map (λ (x : HostOf). x.running)) there ∙ ap (λ (running : Option Running). Some running) runs

pub place_there : (s : State) (h : HostNo) (row : HostOf) (r : Running) → slice_get s.rows h.0 ≡ Some row → row.running ≡ Some r → place_run_by s h ≡ Some r.place
place_there s h row r there runs = ap (λ (found : Option HostOf). option_map_or running_place found None) there ∙ ap (option_map (λ (x : Running). x.place)) runs

sent_tells : (plan : PlanOf) (s : State) (h : HostNo) (item attempt : ℕ) (ticket : Ticket) (play : PlayOf) (row : HostOf) (r : Running) → open_play plan s ≡ Some play → may_send_in s h.0 item attempt ticket play ≡ true
    → slice_get s.rows h.0 ≡ Some row → row.running ≡ Some r → r.out ≡ None → next_item r.items ≡ Some item → attempt_next r.items ≡ attempt
    → Tells plan (seen s) (at_place s.play h.0 (place_run_by s h) (λ task. Sends task item attempt ticket.0 ∷ [])) (seen (sent_in s h.0 ticket play))
sent_tells plan s h item attempt ticket play row r o may there runs free next which =
    subst (λ (happenings : List Happening). Tells plan (seen s) happenings (seen (sent_in s h.0 ticket play))) (sym (ap (λ (place : Option ℕ). at_place s.play h.0 place (λ task. Sends task item attempt ticket.0 ∷ [])) (place_there s h row r there runs)))
    (subst (λ (new : Seen). Tells plan (seen s) (Sends (task_on (seen s) h.0 r.place) item attempt ticket.0 ∷ []) new)
    (sym (ap (λ (v : Seen). record v { sends = s.sends + 1 })
    (changed_seen s [] h.0 (sent ticket) row (Some (sent_running ticket r)) (active_of s.rows) (walked_of s.rows) there (ap (option_map (sent_running ticket)) runs) (map_same (λ (x : HostOf). is_active x.status) (sent ticket) (λ x. refl) s.rows h.0) (map_same (λ (x : HostOf). x.answers) (sent ticket) (λ x. refl) s.rows h.0) (λ x. refl) (λ x. refl))))
    (Sending h.0 item attempt ticket r
    (record {
      opened = open_of plan s (may_send_in s h.0 item attempt ticket) (Some play) o may;
      there = task_there s h.0 row r there runs;
      free = free;
      next = next;
      attempt_is = which;
      number = eqb-true ticket.0 s.sends (and_right (not s.stopped) _ (and_left (not s.stopped && nat_eq ticket.0 s.sends) _ may));
    })))

pub send_tells : (plan : PlanOf) (s : State) (h : HostNo) (item attempt : ℕ) (ticket : Ticket) (found : Option PlayOf) → open_play plan s ≡ found → option_map_or (may_send_in s h.0 item attempt ticket) found false ≡ true
    → Tells plan (seen s) (at_place s.play h.0 (place_run_by s h) (λ task. Sends task item attempt ticket.0 ∷ [])) (seen (option_map_or (sent_in s h.0 ticket) found s))
send_tells plan s h item attempt ticket None o may = cc
send_tells plan s h item attempt ticket (Some play) o may =
    let at = row_at (may_send_item item attempt) s.rows h.0 (and_right (not s.stopped && nat_eq ticket.0 s.sends) _ may) in
    let is = sends_is item attempt at.0.running at.2 in
    sent_tells plan s h item attempt ticket play at.0 is.0 o may at.1 is.1 is.2 is.3 is.4

-- a host that runs a task stands at its place, in the batch
sound_at : (s : State) (h : ℕ) (row : HostOf) (q : Running) → s.is_open ≡ true → IsSound s → slice_get s.rows h ≡ Some row → row.running ≡ Some q → (reach row.tree row.answers ≡ At q.place) × (row.in_batch ≡ true)
sound_at s h row q o sound there runs =
    let found : FoundFrom 0 (Some row) = subst (FoundFrom 0) there (sound o h) in
    let here : RunsFrom 0 row (Some q) = subst (RunsFrom 0 row) runs found in
    (here.0, here.3)

reported_tells : (plan : PlanOf) (s : State) (r : Report) (play : PlayOf) (row : HostOf) (q : Running) (items : List Item) → items ≡ items_after (plan_seen plan s) play row.host row.facts r.outcome q
    → open_play plan s ≡ Some play → may_report_in s r play ≡ true → slice_get s.rows r.host.0 ≡ Some row → row.running ≡ Some q
    → option_map (λ (t : Ticket). t.0) q.out ≡ Some r.ticket.0 → next_item q.items ≡ Some r.item → IsOfPlan plan s → IsSound s
    → Tells plan (seen s) (Reports r.host.0 r.item r.ticket.0 ∷ at_place s.play r.host.0 (place_run_by s r.host) (λ task. ends_if (open_play plan s) (ended_in (reported_in plan s r play).step_result) task))
    (seen (reported_in plan s r play))
reported_tells plan s r play row q items are o may there runs out next of sound =
    subst (λ (happenings : List Happening). Tells plan (seen s) happenings (seen (reported_in plan s r play))) (sym (tells are))
    (subst
    (λ (new : Seen). Tells plan (seen s) (Reports r.host.0 r.item r.ticket.0 ∷ ended_so (is_over items) (task_on (seen s) r.host.0 q.place) (task_at play q.place items) (notified_by play q.place (task_at play q.place items))) new)
    (sym (sees are))
    (Reporting (is_over items) r.host.0 r.item r.ticket q items (task_at play q.place items) (notified_by play q.place (task_at play q.place items))
    (record {
      opened = open_of plan s (may_report_in s r) (Some play) o may;
      there = task_there s r.host.0 row q there runs;
      out = out;
      next = next;
      inside = member_in s.rows r.host.0 row there (sound_at s r.host.0 row q (open_of plan s (may_report_in s r) (Some play) o may) sound there runs).1;
      answers = row.answers;
      answered = answers_there s.rows r.host.0 row there;
      at = leads_on (sound_at s r.host.0 row q (open_of plan s (may_report_in s r) (Some play) o may) sound there runs);
    })
    (record {
      ends = refl;
      judge = came_back (plan_seen plan s) play row.host row.facts q.place r.outcome;
      back = are;
      allowed = λ item call result again. back_allowed plan (plan_seen plan s) s.play play row.host row.facts q.place r.outcome item call result (play_there plan s play o) again;
    })))
  where
    leads_on : (reach row.tree row.answers ≡ At q.place) × (row.in_batch ≡ true) → leads plan s.play row.answers ≡ Some q.place
    leads_on runs_at =
        ap (λ (tree : TreeOf). place_of (reach tree row.answers)) (tree_there plan s.play play (play_there plan s play o) ∙ sym (in_tree play.tree s.rows r.host.0 row (of play o) there runs_at.1))
        ∙ ap place_of runs_at.0

    result_is : ended_in (reported_in plan s r play).step_result
        ≡ option_map (λ (d : TaskDone). d.task) (done_if play q.place (pending row) (items_after (plan_seen plan s) play row.host row.facts r.outcome q))
    result_is =
        ap (λ (found : Option HostOf). ended_in (option_map_or (report_result (plan_seen plan s) play r.outcome) found None)) there
        ∙ ap (λ (running : Option Running). ended_in (option_map (step_result_by (plan_seen plan s) play r.outcome row) running)) runs

    tells : items ≡ items_after (plan_seen plan s) play row.host row.facts r.outcome q
        → Reports r.host.0 r.item r.ticket.0 ∷ at_place s.play r.host.0 (place_run_by s r.host) (λ task. ends_if (open_play plan s) (ended_in (reported_in plan s r play).step_result) task)
        ≡ Reports r.host.0 r.item r.ticket.0 ∷ ended_so (is_over items) (task_on (seen s) r.host.0 q.place) (task_at play q.place items) (notified_by play q.place (task_at play q.place items))
    tells e =
        rw e
        (ap (λ (rest : List Happening). Reports r.host.0 r.item r.ticket.0 ∷ rest)
        (ap (λ (place : Option ℕ). at_place s.play r.host.0 place (λ task. ends_if (open_play plan s) (ended_in (reported_in plan s r play).step_result) task)) (place_there s r.host row q there runs)
        ∙ ap (λ (end : Option TaskEnd). ends_if (open_play plan s) end (task_on (seen s) r.host.0 q.place)) result_is
        ∙ ends_so (open_play plan s) play (pending row) (items_after (plan_seen plan s) play row.host row.facts r.outcome q) (task_on (seen s) r.host.0 q.place) o))

    running_after : (reported (plan_seen plan s) play r.outcome row).running
        ≡ left_so (is_over (items_after (plan_seen plan s) play row.host row.facts r.outcome q)) q.place (items_after (plan_seen plan s) play row.host row.facts r.outcome q)
    running_after =
        ap (λ (running : Option Running). (option_map_or (reported_running (plan_seen plan s) play r.outcome row) running row).running) runs
        ∙ progressed_running (plan_seen plan s).inventory play q.place (items_after (plan_seen plan s) play row.host row.facts r.outcome q) row

    answers_after : (reported (plan_seen plan s) play r.outcome row).answers
        ≡ answered_so (is_over (items_after (plan_seen plan s) play row.host row.facts r.outcome q)) row.answers
        (answer_of (task_at play q.place (items_after (plan_seen plan s) play row.host row.facts r.outcome q)) (notified_by play q.place (task_at play q.place (items_after (plan_seen plan s) play row.host row.facts r.outcome q))))
    answers_after =
        ap (λ (running : Option Running). (option_map_or (reported_running (plan_seen plan s) play r.outcome row) running row).answers) runs
        ∙ progressed_answers (plan_seen plan s).inventory play q.place (items_after (plan_seen plan s) play row.host row.facts r.outcome q) row

    active_after : put (active_of s.rows) r.host.0 (is_active (reported (plan_seen plan s) play r.outcome row).status)
        ≡ active_so (is_over (items_after (plan_seen plan s) play row.host row.facts r.outcome q)) (active_of s.rows) r.host.0 (tree_at plan s.play) row.answers
        (answer_of (task_at play q.place (items_after (plan_seen plan s) play row.host row.facts r.outcome q)) (notified_by play q.place (task_at play q.place (items_after (plan_seen plan s) play row.host row.facts r.outcome q))))
    active_after =
        ap (λ (running : Option Running). put (active_of s.rows) r.host.0 (is_active (option_map_or (reported_running (plan_seen plan s) play r.outcome row) running row).status)) runs
        ∙ progressed_active (plan_seen plan s).inventory play q.place r.host.0 (items_after (plan_seen plan s) play row.host row.facts r.outcome q) (tree_at plan s.play) s.rows row there
        (in_tree play.tree s.rows r.host.0 row (of play o) there (sound_at s r.host.0 row q (open_of plan s (may_report_in s r) (Some play) o may) sound there runs).1
        ∙ sym (tree_there plan s.play play (play_there plan s play o)))

    sees : items ≡ items_after (plan_seen plan s) play row.host row.facts r.outcome q → seen (reported_in plan s r play)
        ≡ record (seen s) { tasks = put (tasks_of s.rows) r.host.0 (left_so (is_over items) q.place items); active = active_so (is_over items) (active_of s.rows) r.host.0 (tree_at plan s.play) row.answers (answer_of (task_at play q.place items) (notified_by play q.place (task_at play q.place items))); walked = put (walked_of s.rows) r.host.0 (answered_so (is_over items) row.answers (answer_of (task_at play q.place items) (notified_by play q.place (task_at play q.place items)))) }
    sees e =
        rw e
        (changed_seen s (report_gives (plan_seen plan s) play r.outcome r.host.0 s.rows) r.host.0 (reported (plan_seen plan s) play r.outcome) row
        (left_so (is_over (items_after (plan_seen plan s) play row.host row.facts r.outcome q)) q.place (items_after (plan_seen plan s) play row.host row.facts r.outcome q))
        (active_so (is_over (items_after (plan_seen plan s) play row.host row.facts r.outcome q)) (active_of s.rows) r.host.0 (tree_at plan s.play) row.answers
        (answer_of (task_at play q.place (items_after (plan_seen plan s) play row.host row.facts r.outcome q)) (notified_by play q.place (task_at play q.place (items_after (plan_seen plan s) play row.host row.facts r.outcome q)))))
        (put (walked_of s.rows) r.host.0
        (answered_so (is_over (items_after (plan_seen plan s) play row.host row.facts r.outcome q)) row.answers
        (answer_of (task_at play q.place (items_after (plan_seen plan s) play row.host row.facts r.outcome q)) (notified_by play q.place (task_at play q.place (items_after (plan_seen plan s) play row.host row.facts r.outcome q))))))
        there running_after (put_change (λ (x : HostOf). is_active x.status) (reported (plan_seen plan s) play r.outcome) s.rows r.host.0 row there ∙ active_after)
        (put_change (λ (x : HostOf). x.answers) (reported (plan_seen plan s) play r.outcome) s.rows r.host.0 row there ∙ ap (put (walked_of s.rows) r.host.0) answers_after)
        (reported_inside (plan_seen plan s) play r.outcome) (reported_waits (plan_seen plan s) play r.outcome))

pub report_tells : (plan : PlanOf) (s : State) (r : Report) (found : Option PlayOf) → open_play plan s ≡ found → option_map_or (may_report_in s r) found false ≡ true → IsOfPlan plan s → IsSound s
    → Tells plan (seen s) (Reports r.host.0 r.item r.ticket.0 ∷ at_place s.play r.host.0 (place_run_by s r.host) (λ task. ends_if (open_play plan s) (ended_in (option_map_or (reported_in plan s r) found s).step_result) task))
    (seen (option_map_or (reported_in plan s r) found s))
report_tells plan s r None o may of sound = cc
report_tells plan s r (Some play) o may of sound =
    let at = row_at (awaits r.ticket r.item r.attempt) s.rows r.host.0 may in
    let is = awaits_is r.ticket r.item r.attempt at.0.running at.2 in
    reported_tells plan s r play at.0 is.0 (items_after (plan_seen plan s) play at.0.host at.0.facts r.outcome is.0) refl o may at.1 is.1 is.2 is.3 of sound
