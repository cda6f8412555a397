-- A run is never stuck.
use Rattle.std.proofs.Common.{◌≡◌, ◌<◌, ◌⊎◌, inl, inr, ℕ, Bool, true, false, ◌&&◌, ◌||◌, not, List, [], ◌∷◌, ◌+◌, drop, length, map, replicate, refl, sym, ◌∙◌, ap, subst, zero, suc}
use Rattle.std.specs.Prelude.{◌==◌, Option, Some, None, slice_get, is_some, is_none, if◌then◌else◌}
use Rattle.std.specs.List.{list_any}
use Rattle.std.specs.Option.{option_map_or}
use Rattle.pb_planes.specs.Set.{has_some}
use Rattle.pb_ids.specs.declared.numbers.Ticket.{Ticket}
use Rattle.pb_tree.specs.Tree.{TreeOf}
use Rattle.pb_inventory.specs.InventoryOf.{InventoryOf}
use Rattle.pb_outcome.specs.declared.job.Report.{Report}
use Rattle.pb_state.specs.declared.event.Event.{Event}
use Rattle.pb_state.specs.declared.event.Event.TheVariants.{Open, Start, Send, Report as Reported, Turn, Close, Stop, Forks}
use Rattle.pb_host.specs.declared.host.Running.{Running}
use Rattle.pb_plan.specs.Plan.{PlayOf, PlanOf}
use Rattle.pb_hosts.specs.Batches.{has_batch_left, room_behind, joined_first}
use Rattle.pb_host.specs.Host.{HostOf}
use Rattle.pb_state.specs.State.{State}
use Rattle.pb_host.specs.Runs.{is_running, is_out, has_send, sends_running, may_send_item, awaits_running, awaits}
use Rattle.pb_hosts.specs.Hosts.{at_row, has_hosts, first_play, least_place}
use Rattle.pb_state.specs.Machine.{possible, after, ready, ready_in, may_open, may_start_in, may_send_in, may_report_in, may_turn_in, may_close_in, next_play, is_left, open_play, opened_by, after_open, started_in, next_at, start_at, sent_in, reported_in, batch_of, turned_in, stopped, with_forks, first_state}
use Rattle.pb_state.specs.Run.{legal_from, state_from, IsRun}
use Rattle.pb_strategies.specs.MayStart.{is_linear, ready as starting}
use Rattle.pb_state.specs.Strategies.{view_of}
use Rattle.pb_state.proofs.Idle.{turn_linear, turn_idle, turns, others_done}
use Rattle.pb_state.proofs.Opening.{open_case}
use Rattle.pb_state.proofs.Readies.{none_start, none_sends}
use Rattle.pb_state.proofs.Stands.{both, linear_place}
use Rattle.pb_hosts.proofs.Turning.{turned_idle}
use Rattle.pb_state.specs.Over.{has_more, IsOver, IsPlaced, IsPlacedBy, IsPlacedIn}

and_left : (a b : Bool) → (a && b) ≡ true → a ≡ true
and_left true b e = refl
and_left false b e = cc

and_right : (a b : Bool) → (a && b) ≡ true → b ≡ true
and_right true b e = e
and_right false b e = cc

or_left : (a b : Bool) → (a || b) ≡ false → a ≡ false
or_left true b e = e
or_left false b e = refl

or_right : (a b : Bool) → (a || b) ≡ false → b ≡ false
or_right true b e = cc
or_right false b e = e

not_false : (b : Bool) → not b ≡ true → b ≡ false
not_false true e = cc
not_false false e = refl

-- a host that has a send, or waits for a report, runs
none_runs : (test : HostOf → Bool) → ((row : HostOf) → is_running row ≡ false → test row ≡ false) → (rows : List HostOf) (h : ℕ) → list_any is_running rows ≡ false → at_row test rows h ≡ false
none_runs test idle [] h e = refl
none_runs test idle (row ∷ rows) zero e = idle row (or_left (is_running row) (list_any is_running rows) e)
none_runs test idle (row ∷ rows) (suc h) e = none_runs test idle rows h (or_right (is_running row) (list_any is_running rows) e)

no_more : (a b c : Bool) → (a && b && c) ≡ true → c ≡ false → true ≡ false
no_more a b c e f = let here = and_right (a && b) c e in cc

and_false : (a : Bool) → (a && false) ≡ false
and_false true = refl
and_false false = refl

idle_sends : (item attempt : ℕ) (running : Option Running) → is_some running ≡ false → option_map_or (sends_running item attempt) running false ≡ false
idle_sends item attempt None e = refl
idle_sends item attempt (Some r) e = cc

idle_awaits : (item attempt : ℕ) (ticket : Ticket) (running : Option Running) → is_some running ≡ false → option_map_or (awaits_running ticket item attempt) running false ≡ false
idle_awaits item attempt ticket None e = refl
idle_awaits item attempt ticket (Some r) e = cc

-- each event keeps it that an open batch has its play, and its least place where no host runs
idle_joined : (tree : TreeOf) (room : ℕ) (rows : List HostOf) → list_any is_running (joined_first tree room rows) ≡ false
idle_joined tree room [] = refl
idle_joined tree room (row ∷ rows) = idle_joined tree (room_behind room row.awaits_batch) rows

placed_new : (linear : Bool) (s : State) → s.place ≡ (if linear then least_place s.rows else None) → list_any is_running s.rows ≡ false → IsPlacedBy linear s
placed_new true s e idle = λ none. (sym e ∙ none, idle)
placed_new false s e idle = e

opened_placed : (plan : PlanOf) (s : State) → IsPlaced plan s → IsPlaced plan (after_open plan s)
opened_placed plan s placed =
    open_case (IsPlaced plan) plan s (λ none. placed)
    (λ n batch sizes rows play size is.
    subst (λ (found : Option PlayOf). IsPlacedIn (opened_by s n batch sizes rows play size) found) (sym is.there)
    (placed_new (is_linear play.strategy) (opened_by s n batch sizes rows play size) refl (idle_joined play.tree size rows)))

-- a step that leaves the place, and comes where a linear batch has one
stays_placed : (linear : Bool) (s new : State) → new.place ≡ s.place → (linear ≡ true → s.place ≡ None → ⊥) → IsPlacedBy linear s → IsPlacedBy linear new
stays_placed true s new same some placed = λ none. absurd (some refl (sym same ∙ none))
stays_placed false s new same some placed = same ∙ placed

in_play : (plan : PlanOf) (s : State) (play : PlayOf) → open_play plan s ≡ Some play → IsPlaced plan s → IsPlacedBy (is_linear play.strategy) s
in_play plan s play here placed = subst (λ (found : Option PlayOf). IsPlacedIn s found) here placed

start_placed : (plan : PlanOf) (s : State) (h : ℕ) (play : PlayOf) (place : Option ℕ) → open_play plan s ≡ Some play → may_start_in s h play ≡ true → IsPlaced plan s → IsPlaced plan (option_map_or (start_at plan s h play) place s)
start_placed plan s h play None here may placed = placed
start_placed plan s h play (Some p) here may placed =
    subst (λ (found : Option PlayOf). IsPlacedIn (start_at plan s h play p) found) (sym here)
    (stays_placed (is_linear play.strategy) s (start_at plan s h play p) refl (λ linear none. linear_place s h play linear may none) (in_play plan s play here placed))

started_placed : (plan : PlanOf) (s : State) (h : ℕ) (found : Option PlayOf) → open_play plan s ≡ found → IsPlaced plan s → option_map_or (may_start_in s h) found false ≡ true → IsPlaced plan (option_map_or (started_in plan s h) found s)
started_placed plan s h None here placed may = placed
started_placed plan s h (Some play) here placed may = start_placed plan s h play (next_at s h) here may placed

-- where a host sends, or waits for a report, one runs
idle_linear : (linear : Bool) (s : State) → linear ≡ true → s.place ≡ None → IsPlacedBy linear s → list_any is_running s.rows ≡ false
idle_linear true s l none placed = (placed none).1
idle_linear false s l none placed = cc

sent_placed : (plan : PlanOf) (s : State) (h item attempt : ℕ) (ticket : Ticket) (found : Option PlayOf) → open_play plan s ≡ found → IsPlaced plan s → option_map_or (may_send_in s h item attempt ticket) found false ≡ true → IsPlaced plan (option_map_or (sent_in s h ticket) found s)
sent_placed plan s h item attempt ticket None here placed may = placed
sent_placed plan s h item attempt ticket (Some play) here placed may =
    subst (λ (found : Option PlayOf). IsPlacedIn (sent_in s h ticket play) found) (sym here)
    (stays_placed (is_linear play.strategy) s (sent_in s h ticket play) refl
    (λ linear none.
    let idle = idle_linear (is_linear play.strategy) s linear none (in_play plan s play here placed) in
    let wrong = no_more (not s.stopped) (ticket.0 == s.sends) (at_row (may_send_item item attempt) s.rows h) may (none_runs (may_send_item item attempt) (λ row e. idle_sends item attempt row.running e) s.rows h idle) in
    cc)
    (in_play plan s play here placed))

reported_placed : (plan : PlanOf) (s : State) (r : Report) (found : Option PlayOf) → open_play plan s ≡ found → IsPlaced plan s → option_map_or (may_report_in s r) found false ≡ true → IsPlaced plan (option_map_or (reported_in plan s r) found s)
reported_placed plan s r None here placed may = placed
reported_placed plan s r (Some play) here placed may =
    subst (λ (found : Option PlayOf). IsPlacedIn (reported_in plan s r play) found) (sym here)
    (stays_placed (is_linear play.strategy) s (reported_in plan s r play) refl
    (λ linear none.
    let idle = idle_linear (is_linear play.strategy) s linear none (in_play plan s play here placed) in
    let wrong = none_runs (awaits r.ticket r.item r.attempt) (λ row e. idle_awaits r.item r.attempt r.ticket row.running e) s.rows r.host.0 idle in
    let both_ways : true ≡ false = sym may ∙ wrong in
    cc)
    (in_play plan s play here placed))

turn_placed : (inventory : InventoryOf) (s : State) (play : PlayOf) (linear : Bool) → is_linear play.strategy ≡ linear → may_turn_in s play ≡ true → IsPlacedBy linear (turned_in inventory s play)
turn_placed inventory s play true l may = λ none. (none, sym (turned_idle inventory play (batch_of s) s.place) ∙ turn_idle s play may)
turn_placed inventory s play false l may = absurd (let both_ways : true ≡ false = sym (turn_linear s play may) ∙ l in cc)

turned_placed : (plan : PlanOf) (s : State) (found : Option PlayOf) → open_play plan s ≡ found → IsPlaced plan s → option_map_or (may_turn_in s) found false ≡ true → IsPlaced plan (option_map_or (turned_in plan.inventory s) found s)
turned_placed plan s None here placed may = placed
turned_placed plan s (Some play) here placed may =
    subst (λ (found : Option PlayOf). IsPlacedIn (turned_in plan.inventory s play) found) (sym here) (turn_placed plan.inventory s play (is_linear play.strategy) refl may)

-- a command changes neither place nor rows
kept_by : (linear : Bool) (s new : State) → new.place ≡ s.place → new.rows ≡ s.rows → IsPlacedBy linear s → IsPlacedBy linear new
kept_by true s new p r placed = λ none. (let was = placed (sym p ∙ none) in (ap least_place r ∙ was.0, ap (list_any is_running) r ∙ was.1))
kept_by false s new p r placed = p ∙ placed

kept_placed : (s new : State) (found : Option PlayOf) → new.is_open ≡ s.is_open → new.place ≡ s.place → new.rows ≡ s.rows → IsPlacedIn s found → IsPlacedIn new found
kept_placed s new None o p r placed = o ∙ placed
kept_placed s new (Some play) o p r placed = kept_by (is_linear play.strategy) s new p r placed

step_placed : (plan : PlanOf) (s : State) (e : Event) → possible plan s e ≡ true → IsPlaced plan s → IsPlaced plan (after plan s e)
step_placed plan s Open may placed = opened_placed plan s placed
step_placed plan s (Start h) may placed = started_placed plan s h.0 (open_play plan s) refl placed may
step_placed plan s (Send h item attempt ticket) may placed = sent_placed plan s h.0 item attempt ticket (open_play plan s) refl placed may
step_placed plan s (Reported r) may placed = reported_placed plan s r (open_play plan s) refl placed may
step_placed plan s Turn may placed = turned_placed plan s (open_play plan s) refl placed may
step_placed plan s Close may placed = refl
step_placed plan s Stop may placed = kept_placed s (stopped s) (open_play plan s) refl refl refl placed
step_placed plan s (Forks n) may placed = kept_placed s (with_forks s n) (open_play plan s) refl refl refl placed

placed_from : (plan : PlanOf) (s : State) (es : List Event) → legal_from plan s es ≡ true → IsPlaced plan s → IsPlaced plan (state_from plan s es)
placed_from plan s [] legal placed = placed
placed_from plan s (e ∷ es) legal placed =
    placed_from plan (after plan s e) es (and_right (possible plan s e) (legal_from plan (after plan s e) es) legal) (step_placed plan s e (and_left (possible plan s e) (legal_from plan (after plan s e) es) legal) placed)

pub placed_run : (plan : PlanOf) (pool : ℕ) (trail : List Event) (s : State) → IsRun plan pool trail s → IsPlaced plan s
placed_run plan pool trail s run = subst (IsPlaced plan) run.ends (placed_from plan (first_state plan plan.forks pool) trail run.legal refl)

-- where no host is ready and no job is out, no host runs
idle_row : (running : Option Running) → option_map_or (λ (r : Running). is_none r.out) running false ≡ false → option_map_or (λ (r : Running). is_some r.out) running false ≡ false → is_some running ≡ false
idle_row None e f = refl
idle_row (Some r) e f = idle_out r.out e f
  where
    idle_out : (out : Option Ticket) → is_none out ≡ false → is_some out ≡ false → true ≡ false
    idle_out None e f = e
    idle_out (Some t) e f = f

both_false : (a b : Bool) → a ≡ false → b ≡ false → (a || b) ≡ false
both_false true b e f = e
both_false false b e f = f

none_running : (rows : List HostOf) → has_some (map has_send rows) ≡ false → list_any is_out rows ≡ false → list_any is_running rows ≡ false
none_running [] e f = refl
none_running (row ∷ rows) e f =
    both_false (is_running row) (list_any is_running rows)
    (idle_row row.running (or_left (has_send row) (has_some (map has_send rows)) e) (or_left (is_out row) (list_any is_out rows) f))
    (none_running rows (or_right (has_send row) (has_some (map has_send rows)) e) (or_right (is_out row) (list_any is_out rows) f))

-- so an open batch can turn or close
closes : (s : State) (play : PlayOf) → s.stopped ≡ false → s.place ≡ None → list_any is_running s.rows ≡ false → least_place s.rows ≡ None → may_close_in s play ≡ true
closes s play st none idle least =
    both (not s.stopped && is_none s.place && not (list_any is_running s.rows)) (is_none (least_place s.rows))
    (both (not s.stopped && is_none s.place) (not (list_any is_running s.rows)) (both (not s.stopped) (is_none s.place) (ap not st) (ap is_none none)) (ap not idle)) (ap is_none least)

goes : (s : State) (play : PlayOf) (linear : Bool) (place : Option ℕ) → is_linear play.strategy ≡ linear → s.place ≡ place → 0 < s.forks → s.stopped ≡ false → IsPlacedBy linear s → list_any is_running s.rows ≡ false
    → has_some (starting (view_of s play)) ≡ false → (may_turn_in s play ≡ true) ⊎ (may_close_in s play ≡ true)
goes s play true None l e f st placed idle none = inr (closes s play st e idle (placed e).0)
goes s play true (Some p) l e f st placed idle none = inl (turns s play l st idle (ap is_some e) none)
goes s play false place l e f st placed idle none = inr (closes s play st placed idle (others_done s play l st idle f none))

closed_in : (s : State) (found : Option PlayOf) → 0 < s.forks → s.stopped ≡ false → IsPlacedIn s found → list_any is_out s.rows ≡ false → has_some (option_map_or (ready_in s) found (replicate (length s.rows) false)) ≡ false → option_map_or (may_turn_in s) found false ≡ false → option_map_or (may_close_in s) found false ≡ false → s.is_open ≡ false
closed_in s None f st placed out r t c = placed
closed_in s (Some play) f st placed out r t c =
    let idle = none_running s.rows (none_sends s play st r) out in
    elim (goes s play (is_linear play.strategy) s.place refl refl f st placed idle (none_start s play r)) [
      | inl may ↦ absurd (let both_ways : true ≡ false = sym may ∙ t in cc)
      | inr may ↦ absurd (let both_ways : true ≡ false = sym may ∙ c in cc)
    ]

-- a play opens next where one is left that has hosts
some_left : (rows : List HostOf) (n : ℕ) (plays : List PlayOf) → is_some (first_play rows n plays) ≡ list_any (has_hosts rows) plays
some_left rows n [] = refl
some_left rows n (play ∷ plays) = by_hosts (has_hosts rows play) (some_left rows (n + 1) plays)
  where
    by_hosts : (b : Bool) → is_some (first_play rows (n + 1) plays) ≡ list_any (has_hosts rows) plays → is_some (if b then Some n else first_play rows (n + 1) plays) ≡ (b || list_any (has_hosts rows) plays)
    by_hosts true e = refl
    by_hosts false e = e

left_same : (plan : PlanOf) (s : State) (sizes_left : Bool)
    → (if sizes_left then is_some (slice_get plan.plays s.play) else is_some (next_play plan s)) ≡ (if sizes_left then is_some (slice_get plan.plays s.play) else list_any (has_hosts s.rows) (drop s.play plan.plays))
left_same plan s true = refl
left_same plan s false = some_left s.rows s.play (drop s.play plan.plays)

over_in : (stopped is_open ended next left : Bool) → next ≡ left → (stopped ≡ false → is_open ≡ false) → (not stopped && not is_open && not ended && next) ≡ false → (stopped ≡ true) ⊎ (ended ≡ true) ⊎ ((is_open ≡ false) × (left ≡ false))
over_in true is_open ended next left l e m = inl refl
over_in false true ended next left l e m = let wrong = e refl in cc
over_in false false true next left l e m = inr (inl refl)
over_in false false false next left l e m = inr (inr (refl, sym l ∙ m))

pub over_now : (plan : PlanOf) (s : State) → 0 < s.forks → IsPlaced plan s → has_some (ready plan s) ≡ false → option_map_or (may_turn_in s) (open_play plan s) false ≡ false → option_map_or (may_close_in s) (open_play plan s) false ≡ false → may_open plan s ≡ false → list_any is_out s.rows ≡ false → IsOver plan s
over_now plan s f placed r t c o out =
    over_in s.stopped s.is_open s.ended (is_left plan s) (has_more plan s) (left_same plan s (has_batch_left s.sizes_left)) (λ st. closed_in s (open_play plan s) f st placed out r t c) o
