-- A run whose hosts have no effect on each other gives each of them what it reaches alone.
use Rattle.std.proofs.Common.{◌≡◌, ◌⊎◌, inl, inr, ℕ, zero, suc, ◌+◌, ◌<◌, Bool, true, false, ◌&&◌, not, List, [], ◌∷◌, length, map, drop, refl, sym, ◌∙◌, ap, subst, arith}
use Rattle.std.specs.Prelude.{◌==◌, Option, Some, None, option_map, is_some, is_none, slice_get, if◌then◌else◌}
use Rattle.std.specs.List.{list_any, list_all}
use Rattle.std.specs.Option.{option_map_or}
use Rattle.pb_ids.specs.declared.numbers.Ticket.{Ticket}
use Rattle.pb_batches.specs.Sizes.{batch_sizes}
use Rattle.pb_planes.specs.Set.{has_some}
use Rattle.pb_tree.specs.Tree.{size_of}
use Rattle.pb_outcome.specs.declared.job.Report.{Report}
use Rattle.pb_plan.specs.Plan.{PlayOf, PlanOf}
use Rattle.pb_strategies.specs.MayStart.{is_linear, ready as starting}
use Rattle.pb_host.specs.declared.host.Running.{Running}
use Rattle.pb_host.specs.Host.{HostOf, first_row, first_rows, next_place, is_play_host, as_play_begins, joined, left, sent, reported}
use Rattle.pb_host.specs.Runs.{is_running, may_send_item, awaits}
use Rattle.pb_hosts.specs.Batches.{has_batch_left, play_host_count, joined_first}
use Rattle.pb_hosts.specs.Hosts.{at_row, change, has_hosts, first_play, lesser, least_place}
use Rattle.pb_hosts.proofs.Batching.{some_play_host}
use Rattle.pb_state.specs.declared.event.Event.{Event}
use Rattle.pb_state.specs.declared.event.Event.TheVariants.{Open, Start, Send, Report as Reported, Turn, Close, Stop, Forks}
use Rattle.pb_state.specs.Jobs.{job_of}
use Rattle.pb_state.specs.Machine.{possible, after, open_play, is_left, next_play, next_at, may_open, may_start_in, may_send_in, may_report_in, may_turn_in, may_close_in, opened as opened_from, goes_on, begins, begins_at, after_open, start_at, started_in, sent_in, reported_in, batch_of, turned_in, closed, first_state, same_place}
use Rattle.pb_state.specs.Run.{IsFinished, legal_from, state_from}
use Rattle.pb_state.specs.State.{State}
use Rattle.pb_state.specs.Strategies.{view_of}
use Rattle.pb_state.specs.Walks.{AreNumbered}
use Rattle.pb_state.proofs.FewBatches.{some_batch}
use Rattle.pb_state.proofs.Idle.{turns, others_done}
use Rattle.pb_state.proofs.Opening.{next_is}
use Rattle.pb_state.proofs.Stands.{stands_at, start_stands}
use Rattle.pb_state.proofs.Walked.{same_is}
use Rattle.pb_state.proofs.Walks.{IsIn, AllIn, IsOfPlan}
use Rattle.pb_state.specs.Over.{IsPlacedBy, IsPlacedIn}
use Rattle.pb_state.proofs.Stuck.{placed_run}
use Rattle.pb_confluence.specs.Fixed.{Fixed, outcome_of, IsFixedAt, IsFixed}
use Rattle.pb_confluence.specs.Effect.{started}
use Rattle.pb_confluence.specs.Alone.{walks, between, alone_in, alone_from, alone, is_uncoupled, EndsAlone}
use Rattle.pb_task_vars.specs.Results.{items_at}
use Rattle.pb_hosts.specs.Turn.{BatchOf}
use Rattle.pb_confluence.proofs.Alone.{later_alone, in_row, row_in, row_waits, row_value, values, RunsOnly, IsRight, inside_at, progressed_right, sent_right, reported_right, progressed_wait, reported_wait, row_same, IsFree, turned_same, joined_rows, joined_right}
use Rattle.pb_confluence.proofs.Along.{IsAlong, along_next, along_first, report_fixed}
use Rattle.pb_independence.specs.Apart.{AreApart}
use Rattle.pb_confluence.proofs.Batches.{total, waits_count, waiting, left_count, joined_count, called_waits, sizes_total, SameWait, waiting_changed, none_waits}
use Rattle.pb_confluence.proofs.Ends.{closes, none_start_at_end, runs_out}
use Rattle.pb_independence.proofs.Independence.{apart_of}
use Rattle.pb_independence.proofs.Tests.{and_left, and_right, or_false}
use Rattle.pb_confluence.proofs.Lists.{both_ways, Every, every_at, every_changed, map_changed, found_in}
use Rattle.pb_confluence.proofs.Moving.{drop_parts, sizes_some, left_some, none_is}
use Rattle.pb_confluence.proofs.Once.{IsIdle, none_runs}
use Rattle.pb_state.proofs.Local.{opened, report_rows}
use Rattle.pb_confluence.proofs.Starting.{start_rows, fixed_row, sends_some, awaits_some, same_row}
use Rattle.pb_confluence.proofs.Walking.{start_walks, send_walks, report_walks, end_walks}

-- ---- what holds of a state
-- how many wait, while a batch is open and while none is
abbrev pub AreWaiting : Bool → List ℕ → List HostOf → Type 0
AreWaiting true sizes_left rows = waiting rows ≡ total sizes_left
AreWaiting false sizes_left rows = waits_count rows ≡ total sizes_left

abbrev pub Holds : State → Type 0
Holds s = Every IsRight s.rows × AreWaiting s.is_open s.sizes_left s.rows

abbrev pub Keeps : PlanOf → Fixed → State → State → Type 0
Keeps plan f s t = Holds t × (values plan f t ≡ values plan f s)

-- one row of an open batch changed
open_rows : (plan : PlanOf) (f : Fixed) (s : State) (play : PlayOf) (rows : List HostOf) → open_play plan s ≡ Some play
    → map (row_value plan f s.is_open (has_batch_left s.sizes_left) s.play) rows ≡ map (λ (row : HostOf). row_in plan f s.play row play) rows
open_rows plan f s play rows o =
    let is = opened s.is_open (slice_get plan.plays s.play) play o in
    ap (λ (b : Bool). map (row_value plan f b (has_batch_left s.sizes_left) s.play) rows) is.0
    ∙ ap (λ (found : Option PlayOf). map (λ (row : HostOf). option_map_or (row_in plan f s.play row) found (between row)) rows) is.1

waiting_in : (b : Bool) (sizes_left : List ℕ) (rows new : List HostOf) → b ≡ true → waiting new ≡ waiting rows → AreWaiting b sizes_left rows → AreWaiting b sizes_left new
waiting_in true sizes_left rows new e same h = same ∙ h
waiting_in false sizes_left rows new e same h = cc

abbrev KeepsRows : PlanOf → Fixed → State → List HostOf → Type 0
KeepsRows plan f s new = (Every IsRight new × AreWaiting s.is_open s.sizes_left new) × (map (row_value plan f s.is_open (has_batch_left s.sizes_left) s.play) new ≡ values plan f s)

changed_keeps : (plan : PlanOf) (f : Fixed) (s : State) (play : PlayOf) (h : ℕ) (c : HostOf → HostOf) → open_play plan s ≡ Some play → Holds s → ((row : HostOf) → SameWait row (c row))
    → ((row : HostOf) → slice_get s.rows h ≡ Some row → IsRight (c row)) → ((row : HostOf) → slice_get s.rows h ≡ Some row → row_in plan f s.play (c row) play ≡ row_in plan f s.play row play)
    → KeepsRows plan f s (change s.rows h c)
changed_keeps plan f s play h c o holds wait right same =
    let is = opened s.is_open (slice_get plan.plays s.play) play o in (
      (every_changed IsRight c s.rows h right holds.0, waiting_in s.is_open s.sizes_left s.rows (change s.rows h c) is.0 (waiting_changed c s.rows h wait) holds.1),
      open_rows plan f s play (change s.rows h c) o ∙ map_changed (λ (row : HostOf). row_in plan f s.play row play) c s.rows h same ∙ sym (open_rows plan f s play s.rows o),
    )

-- what a host of the batch runs, and where it is
in_at : (plan : PlanOf) (s : State) (play : PlayOf) (h : ℕ) (row : HostOf) → open_play plan s ≡ Some play → IsOfPlan plan s → slice_get s.rows h ≡ Some row → IsIn play.tree row
in_at plan s play h row o tracked there = every_in s.rows h (tracked play o) there
  where
    every_in : (rows : List HostOf) (k : ℕ) → AllIn play.tree rows → slice_get rows k ≡ Some row → IsIn play.tree row
    every_in [] k all e = cc
    every_in (first ∷ rows) zero all e = let same : first ≡ row = cc in subst (IsIn play.tree) same all.0
    every_in (first ∷ rows) (suc k) all e = every_in rows k all.1 e

not_is : (b : Bool) → not b ≡ true → b ≡ false
not_is true e = cc
not_is false e = refl

-- ---- a start
start_found : (plan : PlanOf) (f : Fixed) (s : State) (h p : ℕ) (play : PlayOf) (row : HostOf) → AreApart plan → AreNumbered 0 s.rows → IsOfPlan plan s → open_play plan s ≡ Some play → Holds s → slice_get s.rows h ≡ Some row
    → row.running ≡ None → next_place row ≡ Some p → KeepsRows plan f s (start_at plan s h play p).rows
start_found plan f s h p play row apart numbered tracked o holds there idle at =
    let is = opened s.is_open (slice_get plan.plays s.play) play o in
    subst (KeepsRows plan f s) (sym (start_rows plan s h s.play play p apart is.1 numbered))
    (changed_keeps plan f s play h (started plan play p) o holds (λ other. progressed_wait plan.inventory play p (items_at plan play other.host other.facts p) other)
    (λ other found. progressed_right plan.inventory play p (items_at plan play other.host other.facts p) other (subst (λ (r : HostOf). next_place r ≡ Some p) (same_row row other (slice_get s.rows h) there found) at))
    (λ other found.
    let same = same_row row other (slice_get s.rows h) there found in
    let here = subst (λ (r : HostOf). next_place r ≡ Some p) same at in
    let inside = inside_at p other here in
    row_same plan f s.play play other (started plan play p other) inside ((progressed_wait plan.inventory play p (items_at plan play other.host other.facts p) other).1 ∙ inside)
    (start_walks plan f s.play play p other (subst (λ (r : HostOf). r.running ≡ None) same idle) (in_at plan s play h other o tracked found) here)))

idle_is : (x : Option Running) → not (is_some x) ≡ true → x ≡ None
idle_is None e = refl
idle_is (Some r) e = cc

start_keeps : (plan : PlanOf) (f : Fixed) (s : State) (h : ℕ) (play : PlayOf) → AreApart plan → AreNumbered 0 s.rows → IsOfPlan plan s → open_play plan s ≡ Some play → Holds s → may_start_in s h play ≡ true → Keeps plan f s (started_in plan s h play)
start_keeps plan f s h play apart numbered tracked o holds may =
    let at = found_in (stands_at (next_at s h)) (slice_get s.rows h) (start_stands s h play may) in
    let place = same_is (next_place at.0) (next_at s h) (and_right (not (is_running at.0)) (same_place (next_place at.0) (next_at s h)) at.2) in
    let idle = idle_is at.0.running (and_left (not (is_running at.0)) (same_place (next_place at.0) (next_at s h)) at.2) in
    subst (λ (q : Option ℕ). Keeps plan f s (option_map_or (start_at plan s h play) q s)) (sym place.2)
    (start_found plan f s h place.0 play at.0 apart numbered tracked o holds at.1 idle place.1)

-- ---- a send
send_keeps : (plan : PlanOf) (f : Fixed) (s : State) (h item attempt : ℕ) (ticket : Ticket) (play : PlayOf) → IsOfPlan plan s → open_play plan s ≡ Some play → Holds s → may_send_in s h item attempt ticket play ≡ true → Keeps plan f s (sent_in s h ticket play)
send_keeps plan f s h item attempt ticket play tracked o holds may =
    let at = found_in (may_send_item item attempt) (slice_get s.rows h) (and_right (not s.stopped && (ticket.0 == s.sends)) (at_row (may_send_item item attempt) s.rows h) may) in
    let some = sends_some item attempt at.0.running at.2 in
    let right : RunsOnly at.0 (Some some.0) = subst (RunsOnly at.0) some.1 (every_at IsRight s.rows h at.0 holds.0 at.1).0 in
    changed_keeps plan f s play h (sent ticket) o holds (λ other. (refl, refl)) (λ other found. sent_right ticket other (every_at IsRight s.rows h other holds.0 found))
    (λ other found.
    let same = same_row at.0 other (slice_get s.rows h) at.1 found in
    let here = subst (λ (r : HostOf). next_place r ≡ Some some.0.place) same right.0 in
    row_same plan f s.play play other (sent ticket other) (inside_at some.0.place other here) (inside_at some.0.place other here)
    (send_walks plan f s.play play ticket other some.0 (subst (λ (r : HostOf). r.running ≡ Some some.0) same some.1) right.1 (in_at plan s play h other o tracked found) here))

-- ---- a report
report_keeps : (plan : PlanOf) (f : Fixed) (s : State) (r : Report) (play : PlayOf) → AreApart plan → AreNumbered 0 s.rows → IsOfPlan plan s → open_play plan s ≡ Some play → Holds s → may_report_in s r play ≡ true
    → r.outcome ≡ outcome_of f (job_of plan s r.host r.ticket) → Keeps plan f s (reported_in plan s r play)
report_keeps plan f s r play apart numbered tracked o holds may fixed =
    let is = opened s.is_open (slice_get plan.plays s.play) play o in
    let at = found_in (awaits r.ticket r.item r.attempt) (slice_get s.rows r.host.0) may in
    let some = awaits_some r.ticket r.item r.attempt at.0.running at.2 in
    let right : RunsOnly at.0 (Some some.0) = subst (RunsOnly at.0) some.1 (every_at IsRight s.rows r.host.0 at.0 holds.0 at.1).0 in
    subst (KeepsRows plan f s) (sym (report_rows plan s r s.play play apart is.1))
    (changed_keeps plan f s play r.host.0 (reported plan play r.outcome) o holds (λ other. reported_wait plan play r.outcome other)
    (λ other found. reported_right plan play r.outcome other (every_at IsRight s.rows r.host.0 other holds.0 found))
    (λ other found.
    let same = same_row at.0 other (slice_get s.rows r.host.0) at.1 found in
    let here = subst (λ (x : HostOf). next_place x ≡ Some some.0.place) same right.0 in
    let inside = inside_at some.0.place other here in
    row_same plan f s.play play other (reported plan play r.outcome other) inside ((reported_wait plan play r.outcome other).1 ∙ inside)
    (report_walks plan f s.play play r.outcome other some.0 (subst (λ (x : HostOf). x.running ≡ Some some.0) same some.1) right.1 (in_at plan s play r.host.0 other o tracked found) here
    (fixed_row plan f s r play other o found numbered fixed))))

-- ---- a turn
turn_keeps : (plan : PlanOf) (f : Fixed) (s : State) (play : PlayOf) → IsFree play → Holds s → Keeps plan f s (turned_in plan.inventory s play)
turn_keeps plan f s play free holds =
    subst
    (λ (b : BatchOf). (Every IsRight b.rows × AreWaiting s.is_open b.sizes_left b.rows) × (map (row_value plan f s.is_open (has_batch_left b.sizes_left) s.play) b.rows ≡ values plan f s))
    (sym (turned_same plan.inventory play (batch_of s) s.place free holds.0)) (holds, refl)

-- ---- a close
left_right : (rows : List HostOf) → Every IsRight (map left rows)
left_right [] = tt
left_right (row ∷ rows) = ((tt, λ broken. cc), left_right rows)

map_left_rows : (F G : HostOf → HostOf) (rows : List HostOf) → ((h : ℕ) (row : HostOf) → slice_get rows h ≡ Some row → F (left row) ≡ G row) → map F (map left rows) ≡ map G rows
map_left_rows F G [] on = refl
map_left_rows F G (row ∷ rows) on =
    ap (λ (r : HostOf). r ∷ map F (map left rows)) (on 0 row refl) ∙ ap (λ (rest : List HostOf). G row ∷ rest) (map_left_rows F G rows (λ h r e. on (suc h) r e))

closed_inside : (plan : PlanOf) (f : Fixed) (n : ℕ) (play : PlayOf) (row : HostOf) (inside awaits_batch : Bool) → (inside ≡ true → walks plan f n play (size_of play.tree) row ≡ row)
    → in_row plan f n play false (awaits_batch && not inside) (left row) ≡ in_row plan f n play inside awaits_batch row
closed_inside plan f n play row true true on = sym (ap (λ (r : HostOf). later_alone plan f (n + 1) (between r)) (on refl))
closed_inside plan f n play row true false on = sym (ap (λ (r : HostOf). later_alone plan f (n + 1) (between r)) (on refl))
closed_inside plan f n play row false true on = refl
closed_inside plan f n play row false false on = refl

closed_last : (plan : PlanOf) (f : Fixed) (n : ℕ) (play : PlayOf) (row : HostOf) (inside awaits_batch : Bool) → (inside ≡ true → walks plan f n play (size_of play.tree) row ≡ row) → (awaits_batch && not inside) ≡ false
    → later_alone plan f (n + 1) (between row) ≡ in_row plan f n play inside awaits_batch row
closed_last plan f n play row true awaits_batch on none = sym (ap (λ (r : HostOf). later_alone plan f (n + 1) (between r)) (on refl))
closed_last plan f n play row false true on none = cc
closed_last plan f n play row false false on none = refl

none_total : (sizes_left : List ℕ) → has_batch_left sizes_left ≡ false → total sizes_left ≡ 0
none_total [] e = refl
none_total (size ∷ sizes_left) e = cc

close_row : (plan : PlanOf) (f : Fixed) (s : State) (play : PlayOf) (h : ℕ) (row : HostOf) (more : Bool) → slice_get plan.plays s.play ≡ Some play → has_batch_left s.sizes_left ≡ more → waiting s.rows ≡ total s.sizes_left → slice_get s.rows h ≡ Some row
    → (row.in_batch ≡ true → walks plan f s.play play (size_of play.tree) row ≡ row) → row_value plan f false more (if more then s.play else s.play + 1) (left row) ≡ row_in plan f s.play row play
close_row plan f s play h row true there m count found on =
    ap (λ (o : Option PlayOf). option_map_or (row_waits plan f s.play (left row)) o (between (left row))) there ∙ closed_inside plan f s.play play row row.in_batch row.awaits_batch on
close_row plan f s play h row false there m count found on =
    closed_last plan f s.play play row row.in_batch row.awaits_batch on (none_waits s.rows h row (count ∙ none_total s.sizes_left m) found)

lesser_parts : (a b : Option ℕ) → lesser a b ≡ None → (a ≡ None) × (b ≡ None)
lesser_parts None b e = (refl, e)
lesser_parts (Some a) None e = cc
lesser_parts (Some a) (Some b) e = cc

least_none : (rows : List HostOf) (h : ℕ) (row : HostOf) → least_place rows ≡ None → slice_get rows h ≡ Some row → next_place row ≡ None
least_none [] h row e there = cc
least_none (first ∷ rows) zero row e there =
    let same : first ≡ row = cc in subst (λ (r : HostOf). next_place r ≡ None) same (lesser_parts (next_place first) (least_place rows) e).0
least_none (first ∷ rows) (suc h) row e there = least_none rows h row (lesser_parts (next_place first) (least_place rows) e).1 there

waiting_open : (b : Bool) (sizes_left : List ℕ) (rows : List HostOf) → b ≡ true → AreWaiting b sizes_left rows → waiting rows ≡ total sizes_left
waiting_open true sizes_left rows e h = h
waiting_open false sizes_left rows e h = cc

close_keeps : (plan : PlanOf) (f : Fixed) (s : State) (play : PlayOf) → open_play plan s ≡ Some play → Holds s → may_close_in s play ≡ true → Keeps plan f s (closed s)
close_keeps plan f s play o holds may =
    let is = opened s.is_open (slice_get plan.plays s.play) play o in
    let least = none_is (least_place s.rows) (and_right (not s.stopped && is_none s.place && not (list_any is_running s.rows)) (is_none (least_place s.rows)) may) in
    let two = and_left (not s.stopped && is_none s.place && not (list_any is_running s.rows)) (is_none (least_place s.rows)) may in
    let idle = none_runs s.rows (not_is (list_any is_running s.rows) (and_right (not s.stopped && is_none s.place) (not (list_any is_running s.rows)) two)) in
    let count = waiting_open s.is_open s.sizes_left s.rows is.0 holds.1 in (
      (left_right s.rows, left_count s.rows ∙ count),
      map_left_rows (row_value plan f false (has_batch_left s.sizes_left) (if has_batch_left s.sizes_left then s.play else s.play + 1)) (λ (row : HostOf). row_in plan f s.play row play) s.rows
          (λ h row found.
          close_row plan f s play h row (has_batch_left s.sizes_left) is.1 refl count found
          (λ inside. end_walks plan f s.play play (size_of play.tree) row (every_at IsIdle s.rows h row idle found) (least_none s.rows h row least found)))
          ∙ sym (open_rows plan f s play s.rows o),
    )

-- ---- an open
opened_keeps : (plan : PlanOf) (f : Fixed) (s : State) (n batch : ℕ) (sizes : List ℕ) (rows : List HostOf) (play : PlayOf) → slice_get plan.plays n ≡ Some play → has_batch_left sizes ≡ true → waits_count rows ≡ total sizes
    → map (λ (row : HostOf). row_waits plan f n row play) rows ≡ values plan f s → Keeps plan f s (opened_from s n batch sizes rows play)
opened_keeps plan f s n batch [] rows play there some count is = cc
opened_keeps plan f s n batch (size ∷ sizes_left) rows play there some count is =
    let taken = joined_count play.tree rows size (omega (arith, count)) in (
      (joined_right play.tree rows size, omega (arith, taken, count)),
      ap (λ (found : Option PlayOf). map (λ (row : HostOf). option_map_or (row_in plan f n row) found (between row)) (joined_first play.tree size rows)) there
          ∙ joined_rows plan f n play rows size ∙ is,
    )

waiting_shut : (b : Bool) (sizes_left : List ℕ) (rows : List HostOf) → b ≡ false → AreWaiting b sizes_left rows → waits_count rows ≡ total sizes_left
waiting_shut true sizes_left rows e h = cc
waiting_shut false sizes_left rows e h = h

goes_keeps : (plan : PlanOf) (f : Fixed) (s : State) (found : Option PlayOf) → slice_get plan.plays s.play ≡ found → s.is_open ≡ false → has_batch_left s.sizes_left ≡ true → is_some found ≡ true → Holds s → Keeps plan f s (option_map_or (goes_on s) found s)
goes_keeps plan f s None there shut l e holds = cc
goes_keeps plan f s (Some play) there shut l e holds =
    opened_keeps plan f s s.play (s.batch + 1) s.sizes_left s.rows play there l (waiting_shut s.is_open s.sizes_left s.rows shut holds.1)
    (sym
    (ap (λ (b : Bool). map (row_value plan f b (has_batch_left s.sizes_left) s.play) s.rows) shut ∙ ap (λ (b : Bool). map (row_value plan f false b s.play) s.rows) l
    ∙ ap (λ (o : Option PlayOf). map (λ (row : HostOf). option_map_or (row_waits plan f s.play row) o (between row)) s.rows) there))

-- the plays that have no hosts are passed over
no_play_host : (hosts : List Bool) (rows : List HostOf) (h : ℕ) (row : HostOf) → list_any (is_play_host hosts) rows ≡ false → slice_get rows h ≡ Some row → is_play_host hosts row ≡ false
no_play_host hosts [] h row e there = cc
no_play_host hosts (first ∷ rows) zero row e there = let same : first ≡ row = cc in ap (is_play_host hosts) (sym same) ∙ (or_false (is_play_host hosts first) (list_any (is_play_host hosts) rows) e).0
no_play_host hosts (first ∷ rows) (suc h) row e there = no_play_host hosts rows h row (or_false (is_play_host hosts first) (list_any (is_play_host hosts) rows) e).1 there

not_called : (plan : PlanOf) (f : Fixed) (n : ℕ) (play : PlayOf) (row : HostOf) → is_play_host play.hosts row ≡ false → alone_in plan f n play (between row) ≡ between row
not_called plan f n play row e = ap (λ (b : Bool). if b then between (walks plan f n play (size_of play.tree) (joined play.tree true (between row))) else between row) e

skipped_row : (plan : PlanOf) (f : Fixed) (rows : List HostOf) (h : ℕ) (row : HostOf) → slice_get rows h ≡ Some row → (n m : ℕ) (plays : List PlayOf) → plays ≡ drop m plan.plays → first_play rows m plays ≡ Some n
    → alone_from plan f m plays (between row) ≡ later_alone plan f n (between row)
skipped_row plan f rows h row found n m [] is e = cc
skipped_row plan f rows h row found n m (play ∷ plays) is e = by_hosts (has_hosts rows play) refl e (λ g. skipped_row plan f rows h row found n (m + 1) plays (drop_parts plan.plays m play plays is).1 g)
  where
    by_hosts : (b : Bool) → has_hosts rows play ≡ b → (if b then Some m else first_play rows (m + 1) plays) ≡ Some n
        → (first_play rows (m + 1) plays ≡ Some n → alone_from plan f (m + 1) plays (between row) ≡ later_alone plan f n (between row))
        → alone_from plan f (m + 1) plays (alone_in plan f m play (between row)) ≡ later_alone plan f n (between row)
    by_hosts true t g on =
        let same : m ≡ n = cc in
        ap (λ (xs : List PlayOf). alone_from plan f m xs (between row)) is ∙ ap (λ (k : ℕ). later_alone plan f k (between row)) same
    by_hosts false t g on = ap (alone_from plan f (m + 1) plays) (not_called plan f m play row (no_play_host play.hosts rows h row t found)) ∙ on g

drop_at : (plays : List PlayOf) (n : ℕ) (play : PlayOf) → slice_get plays n ≡ Some play → drop n plays ≡ play ∷ drop (n + 1) plays
drop_at [] n play e = cc
drop_at (first ∷ plays) zero play e = let same : first ≡ play = cc in ap (λ (p : PlayOf). p ∷ plays) same
drop_at (first ∷ plays) (suc n) play e = drop_at plays n play e ∙ ap (λ (k : ℕ). play ∷ drop k (first ∷ plays)) (let next : suc (n + 1) ≡ suc n + 1 = omega arith in next)

begun_row : (plan : PlanOf) (f : Fixed) (n : ℕ) (play : PlayOf) (row : HostOf) (b : Bool) → is_play_host play.hosts row ≡ b
    → in_row plan f n play false b (as_play_begins play.hosts row) ≡ alone_from plan f (n + 1) (drop (n + 1) plan.plays) (if b then between (walks plan f n play (size_of play.tree) (joined play.tree true (between row))) else between row)
begun_row plan f n play row true e = refl
begun_row plan f n play row false e = refl

begins_row : (plan : PlanOf) (f : Fixed) (n : ℕ) (play : PlayOf) (row : HostOf) → slice_get plan.plays n ≡ Some play → row_waits plan f n (as_play_begins play.hosts row) play ≡ later_alone plan f n (between row)
begins_row plan f n play row there =
    begun_row plan f n play row (is_play_host play.hosts row) refl ∙ sym (ap (λ (plays : List PlayOf). alone_from plan f n plays (between row)) (drop_at plan.plays n play there))

map_called_rows : (hosts : List Bool) (F G : HostOf → HostOf) (rows : List HostOf) → ((h : ℕ) (row : HostOf) → slice_get rows h ≡ Some row → F (as_play_begins hosts row) ≡ G row) → map F (map (as_play_begins hosts) rows) ≡ map G rows
map_called_rows hosts F G [] on = refl
map_called_rows hosts F G (row ∷ rows) on =
    ap (λ (r : HostOf). r ∷ map F (map (as_play_begins hosts) rows)) (on 0 row refl) ∙ ap (λ (rest : List HostOf). G row ∷ rest) (map_called_rows hosts F G rows (λ h r e. on (suc h) r e))

begins_keeps : (plan : PlanOf) (f : Fixed) (s : State) (n : ℕ) (play : PlayOf) → slice_get plan.plays n ≡ Some play → has_hosts s.rows play ≡ true → s.is_open ≡ false → has_batch_left s.sizes_left ≡ false → next_play plan s ≡ Some n
    → Keeps plan f s (option_map_or (begins s n) (slice_get plan.plays n) s)
begins_keeps plan f s n play there hosts shut l next =
    subst (λ (found : Option PlayOf). Keeps plan f s (option_map_or (begins s n) found s)) (sym there)
    (opened_keeps plan f s n 0 (batch_sizes play.serial (play_host_count play.hosts s.rows)) (map (as_play_begins play.hosts) s.rows) play there
    (sizes_some (batch_sizes play.serial (play_host_count play.hosts s.rows)) (some_batch play.serial (play_host_count play.hosts s.rows) (some_play_host play.hosts s.rows hosts)))
    (called_waits play.hosts s.rows ∙ sym (sizes_total play.serial (play_host_count play.hosts s.rows)))
    (map_called_rows play.hosts (λ (row : HostOf). row_waits plan f n row play) (λ (row : HostOf). later_alone plan f s.play (between row)) s.rows
    (λ h row found. begins_row plan f n play row there ∙ sym (skipped_row plan f s.rows h row found n s.play (drop s.play plan.plays) refl next))
    ∙ sym (ap (λ (b : Bool). map (row_value plan f b (has_batch_left s.sizes_left) s.play) s.rows) shut ∙ ap (λ (b : Bool). map (row_value plan f false b s.play) s.rows) l)))

next_keeps : (plan : PlanOf) (f : Fixed) (s : State) (next : Option ℕ) → next_play plan s ≡ next → s.is_open ≡ false → has_batch_left s.sizes_left ≡ false → is_some next ≡ true → Keeps plan f s (option_map_or (begins_at plan s) next s)
next_keeps plan f s None n shut l e = cc
next_keeps plan f s (Some n) next shut l e = let first = next_is plan s n next in begins_keeps plan f s n first.play first.there first.some shut l next

after_keeps : (plan : PlanOf) (f : Fixed) (s : State) (sizes_left : Bool) → has_batch_left s.sizes_left ≡ sizes_left → s.is_open ≡ false → is_left plan s ≡ true → Holds s
    → Keeps plan f s (if sizes_left then option_map_or (goes_on s) (slice_get plan.plays s.play) s else option_map_or (begins_at plan s) (next_play plan s) s)
after_keeps plan f s true l shut e holds = goes_keeps plan f s (slice_get plan.plays s.play) refl shut l (left_some plan s true l e) holds
after_keeps plan f s false l shut e holds = next_keeps plan f s (next_play plan s) refl shut l (left_some plan s false l e)

open_keeps : (plan : PlanOf) (f : Fixed) (s : State) → Holds s → may_open plan s ≡ true → Keeps plan f s (after_open plan s)
open_keeps plan f s holds may =
    let three = and_left (not s.stopped && not s.is_open && not s.ended) (is_left plan s) may in
    let two = and_left (not s.stopped && not s.is_open) (not s.ended) three in
    after_keeps plan f s (has_batch_left s.sizes_left) refl (not_is s.is_open (and_right (not s.stopped) (not s.is_open) two)) (and_right (not s.stopped && not s.is_open && not s.ended) (is_left plan s) may) holds

-- ---- each event
abbrev AreFree : PlanOf → Type 0
AreFree plan = (n : ℕ) (play : PlayOf) → slice_get plan.plays n ≡ Some play → IsFree play

abbrev IsGood : PlanOf → State → Type 0
IsGood plan s = Holds s × IsAlong plan s

start_event : (plan : PlanOf) (f : Fixed) (s : State) (h : ℕ) (found : Option PlayOf) → AreApart plan → IsGood plan s → open_play plan s ≡ found → option_map_or (may_start_in s h) found false ≡ true → Keeps plan f s (option_map_or (started_in plan s h) found s)
start_event plan f s h None apart good o may = cc
start_event plan f s h (Some play) apart good o may = start_keeps plan f s h play apart (good.1.numbered []) good.1.trees o good.0 may

send_event : (plan : PlanOf) (f : Fixed) (s : State) (h item attempt : ℕ) (ticket : Ticket) (found : Option PlayOf) → IsGood plan s → open_play plan s ≡ found → option_map_or (may_send_in s h item attempt ticket) found false ≡ true
    → Keeps plan f s (option_map_or (sent_in s h ticket) found s)
send_event plan f s h item attempt ticket None good o may = cc
send_event plan f s h item attempt ticket (Some play) good o may = send_keeps plan f s h item attempt ticket play good.1.trees o good.0 may

report_event : (plan : PlanOf) (f : Fixed) (s : State) (r : Report) (found : Option PlayOf) → AreApart plan → IsGood plan s → open_play plan s ≡ found → option_map_or (may_report_in s r) found false ≡ true
    → r.outcome ≡ outcome_of f (job_of plan s r.host r.ticket) → Keeps plan f s (option_map_or (reported_in plan s r) found s)
report_event plan f s r None apart good o may fixed = cc
report_event plan f s r (Some play) apart good o may fixed = report_keeps plan f s r play apart (good.1.numbered []) good.1.trees o good.0 may fixed

turn_event : (plan : PlanOf) (f : Fixed) (s : State) (found : Option PlayOf) → AreFree plan → IsGood plan s → open_play plan s ≡ found → option_map_or (may_turn_in s) found false ≡ true → Keeps plan f s (option_map_or (turned_in plan.inventory s) found s)
turn_event plan f s None free good o may = cc
turn_event plan f s (Some play) free good o may = turn_keeps plan f s play (free s.play play (opened s.is_open (slice_get plan.plays s.play) play o).1) good.0

close_event : (plan : PlanOf) (f : Fixed) (s : State) (found : Option PlayOf) → IsGood plan s → open_play plan s ≡ found → option_map_or (may_close_in s) found false ≡ true → Keeps plan f s (after plan s Close)
close_event plan f s None good o may = cc
close_event plan f s (Some play) good o may = close_keeps plan f s play o good.0 may

event_keeps : (plan : PlanOf) (f : Fixed) (s : State) (e : Event) → AreFree plan → AreApart plan → IsGood plan s → possible plan s e ≡ true → IsFixedAt plan f s e → Keeps plan f s (after plan s e)
event_keeps plan f s Open free apart good may fixed = open_keeps plan f s good.0 may
event_keeps plan f s (Start h) free apart good may fixed = start_event plan f s h.0 (open_play plan s) apart good refl may
event_keeps plan f s (Send h item attempt ticket) free apart good may fixed = send_event plan f s h.0 item attempt ticket (open_play plan s) good refl may
event_keeps plan f s (Reported r) free apart good may fixed = report_event plan f s r (open_play plan s) apart good refl may (report_fixed plan f s r good.1 may fixed)
event_keeps plan f s Turn free apart good may fixed = turn_event plan f s (open_play plan s) free good refl may
event_keeps plan f s Close free apart good may fixed = close_event plan f s (open_play plan s) good refl may
event_keeps plan f s Stop free apart good may fixed = (good.0, refl)
event_keeps plan f s (Forks n) free apart good may fixed = (good.0, refl)

trail_keeps : (plan : PlanOf) (f : Fixed) (s : State) (trail : List Event) → AreFree plan → AreApart plan → IsGood plan s → legal_from plan s trail ≡ true → IsFixed plan f s trail
    → IsGood plan (state_from plan s trail) × (values plan f (state_from plan s trail) ≡ values plan f s)
trail_keeps plan f s [] free apart good legal fixed = (good, refl)
trail_keeps plan f s (e ∷ es) free apart good legal fixed =
    let may = and_left (possible plan s e) (legal_from plan (after plan s e) es) legal in
    let one = event_keeps plan f s e free apart good may fixed.0 in
    let new : IsGood plan (after plan s e) = (one.0, along_next plan s e may good.1) in
    let rest_of = trail_keeps plan f (after plan s e) es free apart new (and_right (possible plan s e) (legal_from plan (after plan s e) es) legal) fixed.1 in
    (rest_of.0, rest_of.1 ∙ one.1)

-- ---- the end
none_runs_at_end : (plan : PlanOf) (s : State) (play : PlayOf) → IsFinished plan s → open_play plan s ≡ Some play → s.stopped ≡ false → Every IsRight s.rows → list_any is_running s.rows ≡ false
none_runs_at_end plan s play finished o st all = runs_out plan s play finished o st (λ h row r there runs. (subst (RunsOnly row) runs (every_at IsRight s.rows h row all there).0).1)

goes : (s : State) (play : PlayOf) (linear : Bool) (place : Option ℕ) → is_linear play.strategy ≡ linear → s.place ≡ place → 0 < s.forks → s.stopped ≡ false → IsPlacedBy linear s → list_any is_running s.rows ≡ false
    → has_some (starting (view_of s play)) ≡ false → (may_turn_in s play ≡ true) ⊎ (may_close_in s play ≡ true)
goes s play true None l e some st placed idle none = inr (closes s play st e idle (placed e).0)
goes s play true (Some p) l e some st placed idle none = inl (turns s play l st idle (ap is_some e) none)
goes s play false place l e some st placed idle none = inr (closes s play st placed idle (others_done s play l st idle some none))

shut_at : (plan : PlanOf) (s : State) (found : Option PlayOf) → open_play plan s ≡ found → IsFinished plan s → 0 < s.forks → s.stopped ≡ false → IsPlacedIn s found → Every IsRight s.rows → s.is_open ≡ false
shut_at plan s None o finished some st placed all = placed
shut_at plan s (Some play) o finished some st placed all =
    let idle = none_runs_at_end plan s play finished o st all in
    elim (goes s play (is_linear play.strategy) s.place refl refl some st placed idle (none_start_at_end plan s play finished o)) [
      | inl may ↦ absurd (both_ways (may_turn_in s play) may (ap (λ (found : Option PlayOf). option_map_or (may_turn_in s) found false) (sym o) ∙ finished.over Turn refl))
      | inr may ↦ absurd (both_ways (may_close_in s play) may (ap (λ (found : Option PlayOf). option_map_or (may_close_in s) found false) (sym o) ∙ finished.over Close refl))
    ]

-- no batch is left, so each host has what it reaches alone
over_row : (plan : PlanOf) (f : Fixed) (rows : List HostOf) (h : ℕ) (row : HostOf) → slice_get rows h ≡ Some row → (n : ℕ) (plays : List PlayOf) → is_some (first_play rows n plays) ≡ false → alone_from plan f n plays (between row) ≡ between row
over_row plan f rows h row found n [] e = refl
over_row plan f rows h row found n (play ∷ plays) e = by_hosts (has_hosts rows play) refl e (λ g. over_row plan f rows h row found (n + 1) plays g)
  where
    by_hosts : (b : Bool) → has_hosts rows play ≡ b → is_some (if b then Some n else first_play rows (n + 1) plays) ≡ false → (is_some (first_play rows (n + 1) plays) ≡ false → alone_from plan f (n + 1) plays (between row) ≡ between row)
        → alone_from plan f (n + 1) plays (alone_in plan f n play (between row)) ≡ between row
    by_hosts true t g on = cc
    by_hosts false t g on = ap (alone_from plan f (n + 1) plays) (not_called plan f n play row (no_play_host play.hosts rows h row t found)) ∙ on g

over_value : (plan : PlanOf) (f : Fixed) (s : State) (h : ℕ) (row : HostOf) (more : Bool) → slice_get s.rows h ≡ Some row → (if more then is_some (slice_get plan.plays s.play) else is_some (next_play plan s)) ≡ false
    → row_value plan f false more s.play row ≡ between row
over_value plan f s h row true found e = by_found (slice_get plan.plays s.play) e
  where
    by_found : (o : Option PlayOf) → is_some o ≡ false → option_map_or (row_waits plan f s.play row) o (between row) ≡ between row
    by_found None g = refl
    by_found (Some play) g = cc
over_value plan f s h row false found e = over_row plan f s.rows h row found s.play (drop s.play plan.plays) e

-- nothing is possible but commands, so a batch is left only where the run ended early
none_left : (stopped is_open ended left : Bool) → stopped ≡ false → is_open ≡ false → (ended ≡ true → left ≡ false) → (not stopped && not is_open && not ended && left) ≡ false → left ≡ false
none_left true is_open ended left st shut early may = cc
none_left false true ended left st shut early may = cc
none_left false false true left st shut early may = early refl
none_left false false false left st shut early may = may

get_map : (g : HostOf → HostOf) (rows : List HostOf) (h : ℕ) → slice_get (map g rows) h ≡ option_map g (slice_get rows h)
get_map g [] h = refl
get_map g (row ∷ rows) zero = refl
get_map g (row ∷ rows) (suc h) = get_map g rows h

first_right : (h n : ℕ) → Every IsRight (first_rows h n)
first_right h zero = tt
first_right h (suc n) = ((tt, λ broken. cc), first_right (h + 1) n)

first_waits : (h n : ℕ) → waits_count (first_rows h n) ≡ 0
first_waits h zero = refl
first_waits h (suc n) = first_waits (h + 1) n

first_at : (k n h : ℕ) (row : HostOf) → slice_get (first_rows k n) h ≡ Some row → row ≡ first_row (k + h)
first_at k zero h row e = cc
first_at k (suc n) zero row e = let same : first_row k ≡ row = cc in sym same ∙ ap first_row (let none : k ≡ k + 0 = omega arith in none)
first_at k (suc n) (suc h) row e = first_at (k + 1) n h row e ∙ ap first_row (let next : (k + 1) + h ≡ k + suc h = omega arith in next)

all_free : (plays : List PlayOf) → list_all is_uncoupled plays ≡ true → (n : ℕ) (play : PlayOf) → slice_get plays n ≡ Some play → IsFree play
all_free [] e n play there = cc
all_free (first ∷ plays) e zero play there = let same : first ≡ play = cc in subst IsFree same (and_left (is_uncoupled first) (list_all is_uncoupled plays) e)
all_free (first ∷ plays) e (suc n) play there = all_free plays (and_right (is_uncoupled first) (list_all is_uncoupled plays) e) n play there

first_there : (g k : HostOf → HostOf) (rows firsts : List HostOf) (h : ℕ) (row : HostOf) → map g rows ≡ map k firsts → slice_get rows h ≡ Some row → (first : HostOf) × (slice_get firsts h ≡ Some first)
first_there g k rows firsts h row same found =
    by_found (slice_get firsts h) refl (sym (get_map g rows h ∙ ap (option_map g) found) ∙ ap (λ (all : List HostOf). slice_get all h) same ∙ get_map k firsts h)
  where
    by_found : (o : Option HostOf) → slice_get firsts h ≡ o → Some (g row) ≡ option_map k o → (first : HostOf) × (slice_get firsts h ≡ Some first)
    by_found None e f = cc
    by_found (Some first) e f = (first, e)

some_value : (a b : HostOf) → Some a ≡ Some b → a ≡ b
some_value a b e = cc

-- of the host whose row this is
row_alone : (plan : PlanOf) (f : Fixed) (s : State) (h : ℕ) (row first : HostOf) (rows : List HostOf) → slice_get s.rows h ≡ Some row → slice_get rows h ≡ Some first → values plan f s ≡ map (row_value plan f false false 0) rows
    → s.is_open ≡ false → is_left plan s ≡ false → between row ≡ later_alone plan f 0 (between first)
row_alone plan f s h row first rows found at same shut none =
    some_value (between row) (later_alone plan f 0 (between first))
    (ap Some (sym (over_value plan f s h row (has_batch_left s.sizes_left) found none) ∙ sym (ap (λ (b : Bool). row_value plan f b (has_batch_left s.sizes_left) s.play row) shut))
    ∙ sym (get_map (row_value plan f s.is_open (has_batch_left s.sizes_left) s.play) s.rows h ∙ ap (option_map (row_value plan f s.is_open (has_batch_left s.sizes_left) s.play)) found)
    ∙ ap (λ (all : List HostOf). slice_get all h) same
    ∙ get_map (row_value plan f false false 0) rows h ∙ ap (option_map (row_value plan f false false 0)) at)

pub ends_alone : EndsAlone
ends_alone plan f pool trail s uncoupled independent run early h row found =
    let free : AreFree plan = all_free plan.plays uncoupled in
    let first : IsGood plan (first_state plan plan.forks pool) = (
      (first_right 0 (length plan.inventory.hosts), first_waits 0 (length plan.inventory.hosts)),
      along_first plan plan.forks pool run.some,
    ) in
    let kept = trail_keeps plan f (first_state plan plan.forks pool) trail free (apart_of plan independent) first run.run.legal run.is_fixed in
    let good : IsGood plan s = subst (IsGood plan) run.run.ends kept.0 in
    let same : values plan f s ≡ values plan f (first_state plan plan.forks pool) = subst (λ (t : State). values plan f t ≡ values plan f (first_state plan plan.forks pool)) run.run.ends kept.1 in
    let shut : s.is_open ≡ false = shut_at plan s (open_play plan s) refl run.finished good.1.forks run.unstopped (placed_run plan pool trail s run.run) good.0.0 in
    let none : is_left plan s ≡ false = none_left s.stopped s.is_open s.ended (is_left plan s) run.unstopped shut early (run.finished.over Open refl) in
    let at = first_there (row_value plan f s.is_open (has_batch_left s.sizes_left) s.play) (row_value plan f false false 0) s.rows (first_rows 0 (length plan.inventory.hosts)) h row same found in
    let alike : between row ≡ later_alone plan f 0 (between at.0) = row_alone plan f s h row at.0 (first_rows 0 (length plan.inventory.hosts)) found at.1 same shut none in
    let is : at.0 ≡ first_row h = first_at 0 (length plan.inventory.hosts) h at.0 at.1 ∙ ap first_row (let none_more : 0 + h ≡ h = omega arith in none_more) in
    let whole : between row ≡ alone plan f h = alike ∙ ap (λ (r : HostOf). later_alone plan f 0 (between r)) is in
    (ap (λ (r : HostOf). r.facts) whole, ap (λ (r : HostOf). r.counts) whole)
