-- Once a run is finished that wasn't stopped no batch is open: in an open batch something can happen.
use Rattle.std.proofs.Common.{◌≡◌, ℕ, zero, suc, ◌+◌, ◌<◌, Bool, true, false, ◌&&◌, ◌||◌, not, List, [], ◌∷◌, length, map, refl, sym, ◌∙◌, ap, subst, arith, ◌⊎◌, inl, inr}
use Rattle.std.specs.Prelude.{◌==◌, Option, Some, None, is_some, is_none, slice_get, if◌then◌else◌}
use Rattle.std.specs.List.{list_any, range_with_len}
use Rattle.std.specs.Option.{option_map_or}
use Rattle.std.proofs.lemmas.Bool.{eq-eqb}
use Rattle.std.proofs.Math.Dec.{eqb-suc-zero}
use Rattle.pb_ids.specs.declared.numbers.Ticket.{Ticket}
use Rattle.pb_inventory.specs.InventoryOf.{InventoryOf}
use Rattle.pb_outcome.specs.declared.job.Report.{Report}
use Rattle.pb_outcome.specs.Items.{next_item, is_over}
use Rattle.pb_planes.specs.Set.{has_some}
use Rattle.pb_plan.specs.Plan.{PlayOf, PlanOf}
use Rattle.pb_strategies.specs.MayStart.{is_linear, may_start, ready as starting}
use Rattle.pb_tree.specs.Tree.{TreeOf}
use Rattle.pb_state.specs.declared.event.Event.{Event}
use Rattle.pb_state.specs.declared.event.Event.TheVariants.{Open, Start, Send, Report as Reported, Turn, Close, Stop, Forks}
use Rattle.pb_host.specs.declared.host.Running.{Running}
use Rattle.pb_hosts.specs.Batches.{room_behind, joined_first}
use Rattle.pb_host.specs.Attempts.{attempt_next}
use Rattle.pb_host.specs.Runs.{is_running, is_out as has_job_out, is_item, is_next, sends_running, may_send_item, awaits_running, awaits}
use Rattle.pb_hosts.specs.Hosts.{at_row, least_place}
use Rattle.pb_state.specs.Machine.{possible, after, may_start_in, may_send_in, may_report_in, may_turn_in, may_close_in, open_play, opened_by, after_open, started_in, next_at, start_at, sent_in, reported_in, batch_of, turned_in, stopped, with_forks, first_state}
use Rattle.pb_host.specs.Host.{HostOf, first_rows}
use Rattle.pb_state.specs.Run.{legal_from, state_from, state_after_under, IsFinished}
use Rattle.pb_state.specs.State.{State}
use Rattle.pb_state.specs.Strategies.{view_of}
use Rattle.pb_state.proofs.Idle.{turn_linear, turn_idle, turns, others_done}
use Rattle.pb_host.proofs.InOrder.{goes_on_at}
use Rattle.pb_state.proofs.StepNumbers.{and_left, and_right}
use Rattle.pb_state.proofs.Opening.{open_case}
use Rattle.pb_state.proofs.Stands.{both, linear_place}
use Rattle.pb_hosts.proofs.Turning.{turned_idle}
use Rattle.pb_laws.specs.History.{Happening, history}
use Rattle.pb_laws.specs.Laws.{AtTheEnd, holds_from, so_far, may_run, is_open, was_stopped, all_closed}
use Rattle.pb_laws.proofs.Telling.{Seen, Tells, Opening, Starting, Sending, Reporting, Turning, Closing, Stopping, Forking, tasks_of}
use Rattle.pb_laws.proofs.TaskTelling.{task_there}
use Rattle.pb_laws.proofs.Holding.{Keeps, given_same, at_end}
use Rattle.pb_laws.proofs.WithinForks.{forks_next, first_idle}
use Rattle.pb_laws.proofs.JobsInOrder.{put_get, idle_none, none_some, some_some}

or_left : (a b : Bool) → (a || b) ≡ false → a ≡ false
or_left true b e = e
or_left false b e = refl

or_right : (a b : Bool) → (a || b) ≡ false → b ≡ false
or_right true b e = cc
or_right false b e = e

true_false : (b : Bool) → b ≡ true → b ≡ false → ⊥
true_false true t f = cc
true_false false t f = cc

-- ---- what happens tells of forks, of stops and of whether a batch is open; and no task that runs is over
record Reads (plan : PlanOf) (past : List Happening) (v : Seen) : Type 0 where
  forks : may_run past ≡ v.forks
  opened : is_open past ≡ v.is_open
  stop : was_stopped past ≡ v.stopped
  going : (h : ℕ) (r : Running) → slice_get v.tasks h ≡ Some (Some r) → is_over r.items ≡ false

opened_next : (plan : PlanOf) (past : List Happening) (v new : Seen) (happens : List Happening) → Tells plan v happens new → is_open past ≡ v.is_open → is_open (so_far past happens) ≡ new.is_open
opened_next plan past v new happens (Opening n more tasks inside waiting is) e = refl
opened_next plan past v new happens (Starting true host place items end notified is so) e = e
opened_next plan past v new happens (Starting false host place items end notified is so) e = e
opened_next plan past v new happens (Sending host item attempt ticket r is) e = e
opened_next plan past v new happens (Reporting true host item ticket r items end notified is so) e = e
opened_next plan past v new happens (Reporting false host item ticket r items end notified is so) e = e
opened_next plan past v new happens (Turning more happenings opened given is) e = given_same is_open (λ before task how. refl) past happens given ∙ e
opened_next plan past v new happens (Closing tasks inside waiting is) e = refl
opened_next plan past v new happens Stopping e = e
opened_next plan past v new happens (Forking n) e = e

stop_next : (plan : PlanOf) (past : List Happening) (v new : Seen) (happens : List Happening) → Tells plan v happens new → was_stopped past ≡ v.stopped → was_stopped (so_far past happens) ≡ new.stopped
stop_next plan past v new happens (Opening n more tasks inside waiting is) e = e
stop_next plan past v new happens (Starting true host place items end notified is so) e = e
stop_next plan past v new happens (Starting false host place items end notified is so) e = e
stop_next plan past v new happens (Sending host item attempt ticket r is) e = e
stop_next plan past v new happens (Reporting true host item ticket r items end notified is so) e = e
stop_next plan past v new happens (Reporting false host item ticket r items end notified is so) e = e
stop_next plan past v new happens (Turning more happenings opened given is) e = given_same was_stopped (λ before task how. refl) past happens given ∙ e
stop_next plan past v new happens (Closing tasks inside waiting is) e = e
stop_next plan past v new happens Stopping e = refl
stop_next plan past v new happens (Forking n) e = e

going_next : (plan : PlanOf) (v new : Seen) (happens : List Happening) → Tells plan v happens new → ((h : ℕ) (r : Running) → slice_get v.tasks h ≡ Some (Some r) → is_over r.items ≡ false)
    → (h : ℕ) (r : Running) → slice_get new.tasks h ≡ Some (Some r) → is_over r.items ≡ false
going_next plan v new happens (Opening n more tasks inside waiting is) was h r e = absurd (idle_none tasks h r is.idle e)
going_next plan v new happens (Starting true host place items end notified is so) was h r e =
    elim (put_get v.tasks host h None (Some r) e) [ inl w ↦ absurd (none_some r w.1) | inr w ↦ was h r w.1 ]
going_next plan v new happens (Starting false host place items end notified is so) was h r e =
    elim (put_get v.tasks host h (Some (record { place = place; items = items; out = None })) (Some r) e) [
      | inl w ↦ ap (λ (x : Running). is_over x.items) (sym (some_some (record { place = place; items = items; out = None }) r w.1)) ∙ so.ends
      | inr w ↦ was h r w.1
    ]
going_next plan v new happens (Sending host item attempt ticket q is) was h r e =
    elim (put_get v.tasks host h (Some (record q { out = Some ticket })) (Some r) e) [
      | inl w ↦ ap (λ (x : Running). is_over x.items) (sym (some_some (record q { out = Some ticket }) r w.1)) ∙ was host q is.there
      | inr w ↦ was h r w.1
    ]
going_next plan v new happens (Reporting true host item ticket q items end notified is so) was h r e =
    elim (put_get v.tasks host h None (Some r) e) [ inl w ↦ absurd (none_some r w.1) | inr w ↦ was h r w.1 ]
going_next plan v new happens (Reporting false host item ticket q items end notified is so) was h r e =
    elim (put_get v.tasks host h (Some (record { place = q.place; items = items; out = None })) (Some r) e) [
      | inl w ↦ ap (λ (x : Running). is_over x.items) (sym (some_some (record { place = q.place; items = items; out = None }) r w.1)) ∙ so.ends
      | inr w ↦ was h r w.1
    ]
going_next plan v new happens (Turning more happenings opened given is) was h r e = was h r e
going_next plan v new happens (Closing tasks inside waiting is) was h r e = absurd (idle_none tasks h r is.idle e)
going_next plan v new happens Stopping was h r e = was h r e
going_next plan v new happens (Forking n) was h r e = was h r e

-- whatever law is asked
any_law : PlanOf → List Happening → Happening → Bool
any_law plan past now = true

any_holds : (plan : PlanOf) (past happens : List Happening) → holds_from (any_law plan) past happens ≡ true
unfolding any_law
any_holds plan past [] = refl
any_holds plan past (x ∷ xs) = any_holds plan (x ∷ past) xs

keeps_reading : Keeps any_law Reads
unfolding any_law
keeps_reading =
    record {
      begins = λ plan n. refl;
      first = λ plan forks pool.
          record {
            forks = refl;
            opened = refl;
            stop = refl;
            going = λ h r e. absurd (idle_none (tasks_of (first_rows 0 (length plan.inventory.hosts))) h r (first_idle 0 (length plan.inventory.hosts)) e);
          };
      now = λ plan past v new happens tells reads. any_holds plan past happens;
      next = λ plan past v new happens tells reads.
          record {
            forks = forks_next plan past v new happens tells reads.forks;
            opened = opened_next plan past v new happens tells reads.opened;
            stop = stop_next plan past v new happens tells reads.stop;
            going = going_next plan v new happens tells reads.going;
          };
    }

-- ---- an open batch has its play; in a linear batch without a place no host runs or is at one, and no other batch has a place
IsPlacedBy : (linear : Bool) → State → Type 0
IsPlacedBy true s = s.place ≡ None → (least_place s.rows ≡ None) × (list_any is_running s.rows ≡ false)
IsPlacedBy false s = s.place ≡ None

IsPlacedIn : State → Option PlayOf → Type 0
IsPlacedIn s None = s.is_open ≡ false
IsPlacedIn s (Some play) = IsPlacedBy (is_linear play.strategy) s

IsPlaced : PlanOf → State → Type 0
IsPlaced plan s = IsPlacedIn s (open_play plan s)

none_runs : (test : HostOf → Bool) → ((row : HostOf) → is_running row ≡ false → test row ≡ false) → (rows : List HostOf) (h : ℕ) → list_any is_running rows ≡ false → at_row test rows h ≡ false
none_runs test idle [] h e = refl
none_runs test idle (row ∷ rows) zero e = idle row (or_left (is_running row) (list_any is_running rows) e)
none_runs test idle (row ∷ rows) (suc h) e = none_runs test idle rows h (or_right (is_running row) (list_any is_running rows) e)

idle_sends : (item attempt : ℕ) (running : Option Running) → is_some running ≡ false → option_map_or (sends_running item attempt) running false ≡ false
idle_sends item attempt None e = refl
idle_sends item attempt (Some r) e = cc

idle_awaits : (item attempt : ℕ) (ticket : Ticket) (running : Option Running) → is_some running ≡ false → option_map_or (awaits_running ticket item attempt) running false ≡ false
idle_awaits item attempt ticket None e = refl
idle_awaits item attempt ticket (Some r) e = cc

idle_joined : (tree : TreeOf) (room : ℕ) (rows : List HostOf) → list_any is_running (joined_first tree room rows) ≡ false
idle_joined tree room [] = refl
idle_joined tree room (row ∷ rows) = idle_joined tree (room_behind room row.awaits_batch) rows

placed_new : (linear : Bool) (s : State) → s.place ≡ (if linear then least_place s.rows else None) → list_any is_running s.rows ≡ false → IsPlacedBy linear s
unfolding IsPlacedBy
placed_new true s e idle = λ none. (sym e ∙ none, idle)
placed_new false s e idle = e

opened_placed : (plan : PlanOf) (s : State) → IsPlaced plan s → IsPlaced plan (after_open plan s)
unfolding IsPlaced IsPlacedIn
opened_placed plan s placed =
    open_case (IsPlaced plan) plan s (λ none. placed)
    (λ n batch sizes rows play size is.
    subst (λ (found : Option PlayOf). IsPlacedIn (opened_by s n batch sizes rows play size) found) (sym is.there)
    (placed_new (is_linear play.strategy) (opened_by s n batch sizes rows play size) refl (idle_joined play.tree size rows)))

stays_placed : (linear : Bool) (s new : State) → new.place ≡ s.place → (linear ≡ true → s.place ≡ None → ⊥) → IsPlacedBy linear s → IsPlacedBy linear new
unfolding IsPlacedBy
stays_placed true s new same some placed = λ none. absurd (some refl (sym same ∙ none))
stays_placed false s new same some placed = same ∙ placed

in_play : (plan : PlanOf) (s : State) (play : PlayOf) → open_play plan s ≡ Some play → IsPlaced plan s → IsPlacedBy (is_linear play.strategy) s
unfolding IsPlaced IsPlacedIn
in_play plan s play here placed = subst (λ (found : Option PlayOf). IsPlacedIn s found) here placed

from_play : (plan : PlanOf) (s new : State) (play : PlayOf) → open_play plan s ≡ Some play → open_play plan new ≡ open_play plan s → IsPlacedBy (is_linear play.strategy) new → IsPlaced plan new
unfolding IsPlaced IsPlacedIn
from_play plan s new play here same placed = subst (λ (found : Option PlayOf). IsPlacedIn new found) (sym (same ∙ here)) placed

start_placed : (plan : PlanOf) (s : State) (h : ℕ) (play : PlayOf) (place : Option ℕ) → open_play plan s ≡ Some play → may_start_in s h play ≡ true → IsPlaced plan s → IsPlaced plan (option_map_or (start_at plan s h play) place s)
start_placed plan s h play None here may placed = placed
start_placed plan s h play (Some p) here may placed =
    from_play plan s (start_at plan s h play p) play here refl
    (stays_placed (is_linear play.strategy) s (start_at plan s h play p) refl (λ linear none. linear_place s h play linear may none) (in_play plan s play here placed))

started_placed : (plan : PlanOf) (s : State) (h : ℕ) (found : Option PlayOf) → open_play plan s ≡ found → IsPlaced plan s → option_map_or (may_start_in s h) found false ≡ true → IsPlaced plan (option_map_or (started_in plan s h) found s)
started_placed plan s h None here placed may = placed
started_placed plan s h (Some play) here placed may = start_placed plan s h play (next_at s h) here may placed

idle_linear : (linear : Bool) (s : State) → linear ≡ true → s.place ≡ None → IsPlacedBy linear s → list_any is_running s.rows ≡ false
unfolding IsPlacedBy
idle_linear true s l none placed = (placed none).1
idle_linear false s l none placed = cc

sent_placed : (plan : PlanOf) (s : State) (h item attempt : ℕ) (ticket : Ticket) (found : Option PlayOf) → open_play plan s ≡ found → IsPlaced plan s → option_map_or (may_send_in s h item attempt ticket) found false ≡ true → IsPlaced plan (option_map_or (sent_in s h ticket) found s)
sent_placed plan s h item attempt ticket None here placed may = placed
sent_placed plan s h item attempt ticket (Some play) here placed may =
    from_play plan s (sent_in s h ticket play) play here refl
    (stays_placed (is_linear play.strategy) s (sent_in s h ticket play) refl
    (λ linear none.
    let idle = idle_linear (is_linear play.strategy) s linear none (in_play plan s play here placed) in
    true_false (at_row (may_send_item item attempt) s.rows h) (and_right (not s.stopped && (ticket.0 == s.sends)) _ may) (none_runs (may_send_item item attempt) (λ row e. idle_sends item attempt row.running e) s.rows h idle))
    (in_play plan s play here placed))

reported_placed : (plan : PlanOf) (s : State) (r : Report) (found : Option PlayOf) → open_play plan s ≡ found → IsPlaced plan s → option_map_or (may_report_in s r) found false ≡ true → IsPlaced plan (option_map_or (reported_in plan s r) found s)
reported_placed plan s r None here placed may = placed
reported_placed plan s r (Some play) here placed may =
    from_play plan s (reported_in plan s r play) play here refl
    (stays_placed (is_linear play.strategy) s (reported_in plan s r play) refl
    (λ linear none.
    let idle = idle_linear (is_linear play.strategy) s linear none (in_play plan s play here placed) in
    true_false (at_row (awaits r.ticket r.item r.attempt) s.rows r.host.0) may (none_runs (awaits r.ticket r.item r.attempt) (λ row e. idle_awaits r.item r.attempt r.ticket row.running e) s.rows r.host.0 idle))
    (in_play plan s play here placed))

turn_placed : (inventory : InventoryOf) (s : State) (play : PlayOf) (linear : Bool) → is_linear play.strategy ≡ linear → may_turn_in s play ≡ true → IsPlacedBy linear (turned_in inventory s play)
unfolding IsPlacedBy
turn_placed inventory s play true l may = λ none. (none, sym (turned_idle inventory play (batch_of s) s.place) ∙ turn_idle s play may)
turn_placed inventory s play false l may = absurd (true_false (is_linear play.strategy) (turn_linear s play may) l)

turned_placed : (plan : PlanOf) (s : State) (found : Option PlayOf) → open_play plan s ≡ found → IsPlaced plan s → option_map_or (may_turn_in s) found false ≡ true → IsPlaced plan (option_map_or (turned_in plan.inventory s) found s)
turned_placed plan s None here placed may = placed
turned_placed plan s (Some play) here placed may = from_play plan s (turned_in plan.inventory s play) play here refl (turn_placed plan.inventory s play (is_linear play.strategy) refl may)

kept_by : (linear : Bool) (s new : State) → new.place ≡ s.place → new.rows ≡ s.rows → IsPlacedBy linear s → IsPlacedBy linear new
unfolding IsPlacedBy
kept_by true s new p r placed = λ none. (let was = placed (sym p ∙ none) in (ap least_place r ∙ was.0, ap (list_any is_running) r ∙ was.1))
kept_by false s new p r placed = p ∙ placed

kept_placed : (s new : State) (found : Option PlayOf) → new.is_open ≡ s.is_open → new.place ≡ s.place → new.rows ≡ s.rows → IsPlacedIn s found → IsPlacedIn new found
unfolding IsPlacedIn
kept_placed s new None o p r placed = o ∙ placed
kept_placed s new (Some play) o p r placed = kept_by (is_linear play.strategy) s new p r placed

step_placed : (plan : PlanOf) (s : State) (e : Event) → possible plan s e ≡ true → IsPlaced plan s → IsPlaced plan (after plan s e)
unfolding IsPlaced IsPlacedIn
step_placed plan s Open may placed = opened_placed plan s placed
step_placed plan s (Start h) may placed = started_placed plan s h.0 (open_play plan s) refl placed may
step_placed plan s (Send h item attempt ticket) may placed = sent_placed plan s h.0 item attempt ticket (open_play plan s) refl placed may
step_placed plan s (Reported r) may placed = reported_placed plan s r (open_play plan s) refl placed may
step_placed plan s Turn may placed = turned_placed plan s (open_play plan s) refl placed may
step_placed plan s Close may placed = refl
step_placed plan s Stop may placed = kept_placed s (stopped s) (open_play plan s) refl refl refl placed
step_placed plan s (Forks n) may placed = kept_placed s (with_forks s n) (open_play plan s) refl refl refl placed

placed_from : (plan : PlanOf) (s : State) (es : List Event) → legal_from plan s es ≡ true → IsPlaced plan s → IsPlaced plan (state_from plan s es)
placed_from plan s [] legal placed = placed
placed_from plan s (e ∷ es) legal placed = placed_from plan (after plan s e) es (and_right (possible plan s e) _ legal) (step_placed plan s e (and_left (possible plan s e) _ legal) placed)

first_placed : (plan : PlanOf) (forks pool : ℕ) → IsPlaced plan (first_state plan forks pool)
unfolding IsPlaced IsPlacedIn
first_placed plan forks pool = refl

-- ---- so an open batch can turn or close, where nothing else can happen in it
any_row : (test : HostOf → Bool) (rows : List HostOf) (h : ℕ) (row : HostOf) → slice_get rows h ≡ Some row → test row ≡ true → list_any test rows ≡ true
any_row test [] h row e t = cc
any_row test (first ∷ rows) zero row e t = or_first (test first) (list_any test rows) (let same : first ≡ row = cc in ap test same ∙ t)
  where
    or_first : (a b : Bool) → a ≡ true → (a || b) ≡ true
    or_first true b f = refl
    or_first false b f = cc
any_row test (first ∷ rows) (suc h) row e t = or_last (test first) (list_any test rows) (any_row test rows h row e t)
  where
    or_last : (a b : Bool) → b ≡ true → (a || b) ≡ true
    or_last true b f = refl
    or_last false b f = f

none_running : (rows : List HostOf) → ((h : ℕ) (row : HostOf) (r : Running) → slice_get rows h ≡ Some row → row.running ≡ Some r → ⊥) → list_any is_running rows ≡ false
none_running [] none = refl
none_running (row ∷ rows) none = by_first row.running refl (none_running rows (λ h x r e f. none (suc h) x r e f))
  where
    by_first : (running : Option Running) → row.running ≡ running → list_any is_running rows ≡ false → (is_some running || list_any is_running rows) ≡ false
    by_first None e rest = rest
    by_first (Some r) e rest = absurd (none 0 row r refl e)

next_so : (n : ℕ) (r : Running) → next_item r.items ≡ Some n → is_next n (attempt_next r.items) r ≡ true
next_so n r next =
    both (is_item n r.items) (attempt_next r.items == attempt_next r.items) (ap (λ (item : Option ℕ). option_map_or (λ m. m == n) item false) next ∙ eq-eqb n n refl)
    (eq-eqb (attempt_next r.items) (attempt_next r.items) refl)

send_may : (s : State) (h n : ℕ) (play : PlayOf) (row : HostOf) (r : Running) → s.stopped ≡ false → slice_get s.rows h ≡ Some row → row.running ≡ Some r → r.out ≡ None → next_item r.items ≡ Some n
    → may_send_in s h n (attempt_next r.items) (record { 0 = s.sends }) play ≡ true
send_may s h n play row r st there runs free next =
    both (not s.stopped && (s.sends == s.sends)) (at_row (may_send_item n (attempt_next r.items)) s.rows h) (both (not s.stopped) (s.sends == s.sends) (ap not st) (eq-eqb s.sends s.sends refl))
    (ap (λ (found : Option HostOf). option_map_or (may_send_item n (attempt_next r.items)) found false) there ∙ ap (λ (running : Option Running). option_map_or (sends_running n (attempt_next r.items)) running false) runs
    ∙ both (is_none r.out) (is_next n (attempt_next r.items) r) (ap is_none free) (next_so n r next))

none_runs_at_end : (plan : PlanOf) (s : State) (play : PlayOf) → IsFinished plan s → open_play plan s ≡ Some play → s.stopped ≡ false
    → ((h : ℕ) (r : Running) → slice_get (tasks_of s.rows) h ≡ Some (Some r) → is_over r.items ≡ false) → list_any is_running s.rows ≡ false
none_runs_at_end plan s play finished o st going =
    none_running s.rows (λ h row r there runs. by_out h row r there runs (going h r (task_there s h row r there runs)) r.out refl)
  where
    by_out : (h : ℕ) (row : HostOf) (r : Running) → slice_get s.rows h ≡ Some row → row.running ≡ Some r → is_over r.items ≡ false → (out : Option Ticket) → r.out ≡ out → ⊥
    by_out h row r there runs on None free =
        let next = goes_on_at r.items on in
        true_false (may_send_in s h next.0 (attempt_next r.items) (record { 0 = s.sends }) play) (send_may s h next.0 play row r st there runs free next.1)
        (ap (λ (found : Option PlayOf). option_map_or (may_send_in s h next.0 (attempt_next r.items) (record { 0 = s.sends })) found false) (sym o) ∙ finished.over (Send (record { 0 = h }) next.0 (attempt_next r.items) (record { 0 = s.sends })) refl)
    by_out h row r there runs on (Some ticket) is =
        true_false (list_any has_job_out s.rows)
        (any_row has_job_out s.rows h row there (ap (λ (running : Option Running). option_map_or (λ (x : Running). is_some x.out) running false) runs ∙ ap is_some is)) finished.none_out

none_some_in : (f : ℕ → Bool) (a n : ℕ) → ((h : ℕ) → f h ≡ false) → has_some (map f (range_with_len a n)) ≡ false
none_some_in f a zero none = refl
none_some_in f a (suc n) none = both_false (f a) (has_some (map f (range_with_len (a + 1) n))) (none a) (none_some_in f (a + 1) n none)
  where
    both_false : (x y : Bool) → x ≡ false → y ≡ false → (x || y) ≡ false
    both_false true y e g = cc
    both_false false y e g = g

none_start_at_end : (plan : PlanOf) (s : State) (play : PlayOf) → IsFinished plan s → open_play plan s ≡ Some play → has_some (starting (view_of s play)) ≡ false
none_start_at_end plan s play finished o =
    none_some_in (may_start (view_of s play)) 0 (length (view_of s play).hosts)
    (λ h. ap (λ (found : Option PlayOf). option_map_or (may_start_in s h) found false) (sym o) ∙ finished.over (Start (record { 0 = h })) refl)

closes : (s : State) (play : PlayOf) → s.stopped ≡ false → s.place ≡ None → list_any is_running s.rows ≡ false → least_place s.rows ≡ None → may_close_in s play ≡ true
closes s play st none idle least =
    both (not s.stopped && is_none s.place && not (list_any is_running s.rows)) (is_none (least_place s.rows))
    (both (not s.stopped && is_none s.place) (not (list_any is_running s.rows)) (both (not s.stopped) (is_none s.place) (ap not st) (ap is_none none)) (ap not idle)) (ap is_none least)

goes : (s : State) (play : PlayOf) (linear : Bool) (place : Option ℕ) → is_linear play.strategy ≡ linear → s.place ≡ place → 0 < s.forks → s.stopped ≡ false → IsPlacedBy linear s → list_any is_running s.rows ≡ false
    → has_some (starting (view_of s play)) ≡ false → (may_turn_in s play ≡ true) ⊎ (may_close_in s play ≡ true)
unfolding IsPlacedBy
goes s play true None l e f st placed idle none = inr (closes s play st e idle (placed e).0)
goes s play true (Some p) l e f st placed idle none = inl (turns s play l st idle (ap is_some e) none)
goes s play false place l e f st placed idle none = inr (closes s play st placed idle (others_done s play l st idle f none))

shut_in : (plan : PlanOf) (s : State) (found : Option PlayOf) → open_play plan s ≡ found → IsFinished plan s → 0 < s.forks → s.stopped ≡ false → IsPlacedIn s found
    → ((h : ℕ) (r : Running) → slice_get (tasks_of s.rows) h ≡ Some (Some r) → is_over r.items ≡ false) → s.is_open ≡ false
unfolding IsPlacedIn
shut_in plan s None o finished f st placed going = placed
shut_in plan s (Some play) o finished f st placed going =
    elim (goes s play (is_linear play.strategy) s.place refl refl f st placed (none_runs_at_end plan s play finished o st going) (none_start_at_end plan s play finished o)) [
      | inl may ↦ absurd (true_false (may_turn_in s play) may (ap (λ (found : Option PlayOf). option_map_or (may_turn_in s) found false) (sym o) ∙ finished.over Turn refl))
      | inr may ↦ absurd (true_false (may_close_in s play) may (ap (λ (found : Option PlayOf). option_map_or (may_close_in s) found false) (sym o) ∙ finished.over Close refl))
    ]

closed_or : (stopped opened : Bool) (n : ℕ) → (stopped ≡ false → 0 < n → opened ≡ false) → (stopped || (n == 0) || not opened) ≡ true
closed_or true opened n shut = refl
closed_or false opened zero shut = refl
closed_or false opened (suc n) shut = ap (λ (b : Bool). b || not opened) (eqb-suc-zero n) ∙ ap not (shut refl (omega arith))

pub batches_all_close : AtTheEnd all_closed
unfolding IsPlaced
batches_all_close plan forks pool trail l finished =
    let reads = at_end any_law Reads keeps_reading plan forks pool trail l in
    let s : State = state_after_under plan forks pool trail in
    closed_or (was_stopped (so_far [] (history plan forks pool trail))) (is_open (so_far [] (history plan forks pool trail))) (may_run (so_far [] (history plan forks pool trail)))
    (λ st some.
    reads.opened
    ∙ shut_in plan s (open_play plan s) refl finished (let same = reads.forks in omega (arith, some, same)) (sym reads.stop ∙ st) (placed_from plan (first_state plan forks pool) trail l (first_placed plan forks pool)) reads.going)
