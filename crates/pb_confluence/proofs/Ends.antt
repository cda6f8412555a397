-- A run that is over has the rows that were its value from the start.
use Rattle.std.proofs.Common.{◌≡◌, ℕ, zero, suc, ◌+◌, Bool, true, false, ◌&&◌, ◌||◌, not, List, [], ◌∷◌, length, map, drop, refl, sym, ◌∙◌, ap, subst}
use Rattle.std.proofs.lemmas.Bool.{eq-eqb}
use Rattle.std.specs.Prelude.{◌==◌, Option, Some, None, is_some, is_none, slice_get, if◌then◌else◌}
use Rattle.std.specs.List.{list_any, list_all, range_with_len}
use Rattle.std.specs.Option.{option_map_or}
use Rattle.pb_ids.specs.declared.numbers.Ticket.{Ticket}
use Rattle.pb_planes.specs.Set.{has_some}
use Rattle.pb_outcome.specs.declared.job.Report.{Report}
use Rattle.pb_outcome.specs.Items.{next_item, is_over}
use Rattle.pb_plan.specs.Plan.{PlayOf, PlanOf}
use Rattle.pb_strategies.specs.MayStart.{is_linear, may_start, ready as starting}
use Rattle.pb_host.specs.declared.host.Running.{Running}
use Rattle.pb_host.specs.Attempts.{attempt_next}
use Rattle.pb_host.specs.Host.{HostOf, first_rows, next_place}
use Rattle.pb_host.specs.Runs.{is_running, is_out, is_item, is_next, sends_running, may_send_item}
use Rattle.pb_host.proofs.InOrder.{goes_on_at}
use Rattle.pb_hosts.specs.Batches.{has_batch_left}
use Rattle.pb_hosts.specs.Hosts.{at_row, has_hosts, first_play, lesser, least_place}
use Rattle.pb_state.specs.declared.event.Event.{Event}
use Rattle.pb_state.specs.declared.event.Event.TheVariants.{Open, Start, Send, Report as Reported, Turn, Close, Stop, Forks}
use Rattle.pb_state.specs.Machine.{possible, after, open_play, is_left, next_play, may_start_in, may_send_in, may_report_in, may_turn_in, may_close_in, started_in, sent_in, reported_in, turned_in, first_state}
use Rattle.pb_state.specs.Run.{legal_from, state_from, state_after_under, IsFinished}
use Rattle.pb_state.specs.State.{State}
use Rattle.pb_state.specs.Strategies.{view_of}
use Rattle.pb_state.proofs.Idle.{turns}
use Rattle.pb_state.proofs.Stands.{both}
use Rattle.pb_state.specs.Jobs.{job_of}
use Rattle.pb_confluence.specs.Fixed.{Fixed, outcome_of, IsFixedAt, IsFixed}
use Rattle.pb_confluence.proofs.Along.{IsAlong, along_next, along_first, report_fixed}
use Rattle.pb_confluence.specs.Together.{at_plays, in_play, together}
use Rattle.pb_confluence.specs.Confluence.{IsWhole, EndsTogether}
use Rattle.pb_independence.specs.Apart.{AreApart}
use Rattle.pb_independence.proofs.Tests.{and_left, and_right, none_false}
use Rattle.pb_confluence.proofs.Lists.{or_right_true, both_ways, Every, every_at}
use Rattle.pb_confluence.proofs.Moving.{AreLinear, open_keeps, turn_keeps, close_keeps, well_idle}
use Rattle.pb_confluence.proofs.Once.{IsIdle, none_runs}
use Rattle.pb_confluence.proofs.Rows.{AtLeast, RunsAt, IsWell}
use Rattle.pb_confluence.proofs.Starting.{Keeps, is_start, start_keeps, send_keeps, report_keeps}
use Rattle.pb_confluence.proofs.Values.{batches_left, in_open, in_closed, rest, value, Holds, HoldsIn}
use Rattle.pb_independence.proofs.Independence.{apart_of}

-- ---- what holds of a state of a run
abbrev pub IsGood : PlanOf → State → Type 0
IsGood plan s = HoldsIn s.place s.rows (open_play plan s) × IsAlong plan s

linear_of : (plan : PlanOf) (s : State) (play : PlayOf) → AreLinear plan → open_play plan s ≡ Some play → is_linear play.strategy ≡ true
linear_of plan s play linear o = by_open s.is_open o
  where
    by_open : (b : Bool) → (if b then slice_get plan.plays s.play else None) ≡ Some play → is_linear play.strategy ≡ true
    by_open true e = linear s.play play e
    by_open false e = cc

-- ---- each event
start_event : (plan : PlanOf) (f : Fixed) (s : State) (h : ℕ) (found : Option PlayOf) → AreLinear plan → AreApart plan → IsGood plan s → open_play plan s ≡ found → option_map_or (may_start_in s h) found false ≡ true
    → HoldsIn s.place s.rows found → Keeps plan f s (option_map_or (started_in plan s h) found s)
start_event plan f s h None linear apart good o may holds = cc
start_event plan f s h (Some play) linear apart good o may holds =
    start_keeps plan f s h play apart (good.1.numbered []) o holds (is_start s h play (linear_of plan s play linear o) may)

send_event : (plan : PlanOf) (f : Fixed) (s : State) (h item attempt : ℕ) (ticket : Ticket) (found : Option PlayOf) → open_play plan s ≡ found → option_map_or (may_send_in s h item attempt ticket) found false ≡ true → HoldsIn s.place s.rows found
    → Keeps plan f s (option_map_or (sent_in s h ticket) found s)
send_event plan f s h item attempt ticket None o may holds = cc
send_event plan f s h item attempt ticket (Some play) o may holds = send_keeps plan f s h item attempt ticket play o may holds

report_event : (plan : PlanOf) (f : Fixed) (s : State) (r : Report) (found : Option PlayOf) → AreApart plan → IsGood plan s → open_play plan s ≡ found → option_map_or (may_report_in s r) found false ≡ true
    → r.outcome ≡ outcome_of f (job_of plan s r.host r.ticket) → HoldsIn s.place s.rows found → Keeps plan f s (option_map_or (reported_in plan s r) found s)
report_event plan f s r None apart good o may fixed holds = cc
report_event plan f s r (Some play) apart good o may fixed holds = report_keeps plan f s r play apart (good.1.numbered []) o may fixed holds

turn_event : (plan : PlanOf) (f : Fixed) (s : State) (found : Option PlayOf) → IsGood plan s → open_play plan s ≡ found → option_map_or (may_turn_in s) found false ≡ true → HoldsIn s.place s.rows found
    → Keeps plan f s (option_map_or (turned_in plan.inventory s) found s)
turn_event plan f s None good o may holds = cc
turn_event plan f s (Some play) good o may holds = turn_keeps plan f s play good.1.forks may o holds (good.1.trees play o)

close_event : (plan : PlanOf) (f : Fixed) (s : State) (found : Option PlayOf) → open_play plan s ≡ found → option_map_or (may_close_in s) found false ≡ true → Keeps plan f s (after plan s Close)
close_event plan f s None o may = cc
close_event plan f s (Some play) o may = close_keeps plan f s play may o

event_keeps : (plan : PlanOf) (f : Fixed) (s : State) (e : Event) → AreLinear plan → AreApart plan → IsGood plan s → possible plan s e ≡ true → IsFixedAt plan f s e → Keeps plan f s (after plan s e)
event_keeps plan f s Open linear apart good may fixed = open_keeps plan f s linear may
event_keeps plan f s (Start h) linear apart good may fixed = start_event plan f s h.0 (open_play plan s) linear apart good refl may good.0
event_keeps plan f s (Send h item attempt ticket) linear apart good may fixed = send_event plan f s h.0 item attempt ticket (open_play plan s) refl may good.0
event_keeps plan f s (Reported r) linear apart good may fixed = report_event plan f s r (open_play plan s) apart good refl may (report_fixed plan f s r good.1 may fixed) good.0
event_keeps plan f s Turn linear apart good may fixed = turn_event plan f s (open_play plan s) good refl may good.0
event_keeps plan f s Close linear apart good may fixed = close_event plan f s (open_play plan s) refl may
event_keeps plan f s Stop linear apart good may fixed = (good.0, refl)
event_keeps plan f s (Forks n) linear apart good may fixed = (good.0, refl)

pub trail_keeps : (plan : PlanOf) (f : Fixed) (s : State) (trail : List Event) → AreLinear plan → AreApart plan → IsGood plan s → legal_from plan s trail ≡ true → IsFixed plan f s trail
    → IsGood plan (state_from plan s trail) × (value plan f (state_from plan s trail) ≡ value plan f s)
trail_keeps plan f s [] linear apart good legal fixed = (good, refl)
trail_keeps plan f s (e ∷ es) linear apart good legal fixed =
    let may = and_left (possible plan s e) (legal_from plan (after plan s e) es) legal in
    let one = event_keeps plan f s e linear apart good may fixed.0 in
    let new : IsGood plan (after plan s e) = (one.0, along_next plan s e may good.1) in
    let rest_of = trail_keeps plan f (after plan s e) es linear apart new (and_right (possible plan s e) (legal_from plan (after plan s e) es) legal) fixed.1 in
    (rest_of.0, rest_of.1 ∙ one.1)

-- ---- the end: no batch is open, since in an open one something can happen
or_first : (a b : Bool) → a ≡ true → (a || b) ≡ true
or_first true b e = refl
or_first false b e = cc

any_row : (test : HostOf → Bool) (rows : List HostOf) (h : ℕ) (row : HostOf) → slice_get rows h ≡ Some row → test row ≡ true → list_any test rows ≡ true
any_row test [] h row e t = cc
any_row test (first ∷ rows) zero row e t = or_first (test first) (list_any test rows) (let same : first ≡ row = cc in ap test same ∙ t)
any_row test (first ∷ rows) (suc h) row e t = or_right_true (test first) (list_any test rows) (any_row test rows h row e t)

pub none_running : (rows : List HostOf) → ((h : ℕ) (row : HostOf) (r : Running) → slice_get rows h ≡ Some row → row.running ≡ Some r → ⊥) → list_any is_running rows ≡ false
none_running [] none = refl
none_running (row ∷ rows) none = by_first row.running refl (none_running rows (λ h x r e g. none (suc h) x r e g))
  where
    by_first : (x : Option Running) → row.running ≡ x → list_any is_running rows ≡ false → (is_some x || list_any is_running rows) ≡ false
    by_first None e more = more
    by_first (Some r) e more = absurd (none 0 row r refl e)

send_may : (s : State) (h n : ℕ) (play : PlayOf) (row : HostOf) (r : Running) → s.stopped ≡ false → slice_get s.rows h ≡ Some row → row.running ≡ Some r → r.out ≡ None → next_item r.items ≡ Some n
    → may_send_in s h n (attempt_next r.items) (record { 0 = s.sends }) play ≡ true
send_may s h n play row r st there runs free next =
    both (not s.stopped && (s.sends == s.sends)) (at_row (may_send_item n (attempt_next r.items)) s.rows h) (both (not s.stopped) (s.sends == s.sends) (ap not st) (eq-eqb s.sends s.sends refl))
    (ap (λ (found : Option HostOf). option_map_or (may_send_item n (attempt_next r.items)) found false) there ∙ ap (λ (x : Option Running). option_map_or (sends_running n (attempt_next r.items)) x false) runs
    ∙ both (is_none r.out) (is_next n (attempt_next r.items) r) (ap is_none free)
    (both (is_item n r.items) (attempt_next r.items == attempt_next r.items) (ap (λ (item : Option ℕ). option_map_or (λ m. m == n) item false) next ∙ eq-eqb n n refl) (eq-eqb (attempt_next r.items) (attempt_next r.items) refl)))

-- what a host runs that isn't over has an item to be sent, or to come back
pub runs_out : (plan : PlanOf) (s : State) (play : PlayOf) → IsFinished plan s → open_play plan s ≡ Some play → s.stopped ≡ false
    → ((h : ℕ) (row : HostOf) (r : Running) → slice_get s.rows h ≡ Some row → row.running ≡ Some r → is_over r.items ≡ false) → list_any is_running s.rows ≡ false
runs_out plan s play finished o st going = none_running s.rows (λ h row r there runs. by_out h row r there runs (going h row r there runs) r.out refl)
  where
    by_out : (h : ℕ) (row : HostOf) (r : Running) → slice_get s.rows h ≡ Some row → row.running ≡ Some r → is_over r.items ≡ false → (out : Option Ticket) → r.out ≡ out → ⊥
    by_out h row r there runs on None free =
        let next = goes_on_at r.items on in
        both_ways (may_send_in s h next.0 (attempt_next r.items) (record { 0 = s.sends }) play) (send_may s h next.0 play row r st there runs free next.1)
        (ap (λ (found : Option PlayOf). option_map_or (may_send_in s h next.0 (attempt_next r.items) (record { 0 = s.sends })) found false) (sym o) ∙ finished.over (Send (record { 0 = h }) next.0 (attempt_next r.items) (record { 0 = s.sends })) refl)
    by_out h row r there runs on (Some ticket) is =
        both_ways (list_any is_out s.rows)
        (any_row is_out s.rows h row there (ap (λ (x : Option Running). option_map_or (λ (y : Running). is_some y.out) x false) runs ∙ ap is_some is)) finished.none_out

none_runs_at_end : (plan : PlanOf) (s : State) (play : PlayOf) → IsFinished plan s → open_play plan s ≡ Some play → s.stopped ≡ false → Holds play s.place s.rows → list_any is_running s.rows ≡ false
none_runs_at_end plan s play finished o st holds =
    runs_out plan s play finished o st (λ h row r there runs. (subst (RunsAt s.place row) runs (every_at (IsWell s.place) s.rows h row holds.0 there).0).2)

none_some_in : (g : ℕ → Bool) (a n : ℕ) → ((h : ℕ) → g h ≡ false) → has_some (map g (range_with_len a n)) ≡ false
none_some_in g a zero none = refl
none_some_in g a (suc n) none = none_false (g a) (has_some (map g (range_with_len (a + 1) n))) (none a) (none_some_in g (a + 1) n none)

pub none_start_at_end : (plan : PlanOf) (s : State) (play : PlayOf) → IsFinished plan s → open_play plan s ≡ Some play → has_some (starting (view_of s play)) ≡ false
none_start_at_end plan s play finished o =
    none_some_in (may_start (view_of s play)) 0 (length (view_of s play).hosts)
    (λ h. ap (λ (found : Option PlayOf). option_map_or (may_start_in s h) found false) (sym o) ∙ finished.over (Start (record { 0 = h })) refl)

-- where no place is current no host has one
no_place : (row : HostOf) → AtLeast None (next_place row) → next_place row ≡ None
no_place row h = by_next (next_place row) h
  where
    by_next : (next : Option ℕ) → AtLeast None next → next ≡ None
    by_next None g = refl
    by_next (Some p) g = absurd g

none_least : (rows : List HostOf) → Every IsIdle rows → Every (IsWell None) rows → least_place rows ≡ None
none_least [] idle all = refl
none_least (row ∷ rows) idle all =
    ap (λ (q : Option ℕ). lesser q (least_place rows)) (no_place row (well_idle None row idle.0 all.0).0) ∙ none_least rows idle.1 all.1

pub closes : (s : State) (play : PlayOf) → s.stopped ≡ false → s.place ≡ None → list_any is_running s.rows ≡ false → least_place s.rows ≡ None → may_close_in s play ≡ true
closes s play st none idle least =
    both (not s.stopped && is_none s.place && not (list_any is_running s.rows)) (is_none (least_place s.rows))
    (both (not s.stopped && is_none s.place) (not (list_any is_running s.rows)) (both (not s.stopped) (is_none s.place) (ap not st) (ap is_none none)) (ap not idle)) (ap is_none least)

shut_at : (plan : PlanOf) (s : State) (play : PlayOf) (place : Option ℕ) → s.place ≡ place → is_linear play.strategy ≡ true → open_play plan s ≡ Some play → IsFinished plan s → s.stopped ≡ false → Holds play s.place s.rows → s.is_open ≡ false
shut_at plan s play None e l o finished st holds =
    let idle = none_runs_at_end plan s play finished o st holds in
    let least = none_least s.rows (none_runs s.rows idle) (subst (λ (q : Option ℕ). Every (IsWell q) s.rows) e holds.0) in
    absurd (both_ways (may_close_in s play) (closes s play st e idle least) (ap (λ (found : Option PlayOf). option_map_or (may_close_in s) found false) (sym o) ∙ finished.over Close refl))
shut_at plan s play (Some p) e l o finished st holds =
    let idle = none_runs_at_end plan s play finished o st holds in
    absurd
    (both_ways (may_turn_in s play) (turns s play l st idle (ap is_some e) (none_start_at_end plan s play finished o))
    (ap (λ (found : Option PlayOf). option_map_or (may_turn_in s) found false) (sym o) ∙ finished.over Turn refl))

-- nor is one left
over_plays : (plan : PlanOf) (f : Fixed) (rows : List HostOf) (n : ℕ) (plays : List PlayOf) → is_some (first_play rows n plays) ≡ false → at_plays plan f n plays rows ≡ rows
over_plays plan f rows n [] e = refl
over_plays plan f rows n (play ∷ plays) e = by_hosts (has_hosts rows play) e (λ g. over_plays plan f rows (n + 1) plays g)
  where
    by_hosts : (b : Bool) → is_some (if b then Some n else first_play rows (n + 1) plays) ≡ false → (is_some (first_play rows (n + 1) plays) ≡ false → at_plays plan f (n + 1) plays rows ≡ rows)
        → (if b then in_play plan f n play (λ more. at_plays plan f (n + 1) plays more) rows else at_plays plan f (n + 1) plays rows) ≡ rows
    by_hosts true g on = cc
    by_hosts false g on = on g

over_left : (plan : PlanOf) (f : Fixed) (s : State) (sizes_left : Bool) → (if sizes_left then is_some (slice_get plan.plays s.play) else is_some (next_play plan s)) ≡ false → in_closed plan f s.play s.sizes_left s.rows sizes_left ≡ s.rows
over_left plan f s true e = by_found (slice_get plan.plays s.play) e
  where
    by_found : (found : Option PlayOf) → is_some found ≡ false → option_map_or (λ (play : PlayOf). batches_left plan f s.play play s.sizes_left s.rows) found s.rows ≡ s.rows
    by_found None g = refl
    by_found (Some play) g = cc
over_left plan f s false e = over_plays plan f s.rows s.play (drop s.play plan.plays) e

over_value : (plan : PlanOf) (f : Fixed) (s : State) (is_open stopped ended : Bool) → is_open ≡ false → stopped ≡ false → (not stopped && not is_open && not ended && is_left plan s) ≡ false
    → rest plan f is_open ended s.place s.play (record { rows = s.rows; sizes_left = s.sizes_left }) ≡ s.rows
over_value plan f s true stopped ended o st may = cc
over_value plan f s false true ended o st may = cc
over_value plan f s false false true o st may = refl
over_value plan f s false false false o st may = over_left plan f s (has_batch_left s.sizes_left) may

-- whether there is a play of the number or not
none_value : (plan : PlanOf) (f : Fixed) (s : State) (is_open : Bool) → (if is_open then slice_get plan.plays s.play else None) ≡ None → s.stopped ≡ false → (not s.stopped && not is_open && not s.ended && is_left plan s) ≡ false
    → rest plan f is_open s.ended s.place s.play (record { rows = s.rows; sizes_left = s.sizes_left }) ≡ s.rows
none_value plan f s true o st may = ap (λ (found : Option PlayOf). option_map_or (in_open plan f s.play s.place (record { rows = s.rows; sizes_left = s.sizes_left })) found s.rows) o
none_value plan f s false o st may = over_value plan f s false s.stopped s.ended refl st may

end_value : (plan : PlanOf) (f : Fixed) (s : State) (found : Option PlayOf) → AreLinear plan → open_play plan s ≡ found → IsFinished plan s → s.stopped ≡ false → HoldsIn s.place s.rows found → value plan f s ≡ s.rows
end_value plan f s None linear o finished st holds = none_value plan f s s.is_open o st (finished.over Open refl)
end_value plan f s (Some play) linear o finished st holds =
    over_value plan f s s.is_open s.stopped s.ended (shut_at plan s play s.place refl (linear_of plan s play linear o) o finished st holds) st (finished.over Open refl)

-- ---- whole runs
first_idle : (h n : ℕ) → Every IsIdle (first_rows h n)
first_idle h zero = tt
first_idle h (suc n) = (refl, first_idle (h + 1) n)

all_linear : (plays : List PlayOf) → list_all (λ (play : PlayOf). is_linear play.strategy) plays ≡ true → (n : ℕ) (play : PlayOf) → slice_get plays n ≡ Some play → is_linear play.strategy ≡ true
all_linear [] e n play there = cc
all_linear (first ∷ plays) e zero play there =
    let same : first ≡ play = cc in
    subst (λ (p : PlayOf). is_linear p.strategy ≡ true) same (and_left (is_linear first.strategy) (list_all (λ (p : PlayOf). is_linear p.strategy) plays) e)
all_linear (first ∷ plays) e (suc n) play there = all_linear plays (and_right (is_linear first.strategy) (list_all (λ (p : PlayOf). is_linear p.strategy) plays) e) n play there

pub ends_by : (plan : PlanOf) (f : Fixed) (forks pool : ℕ) (trail : List Event) → AreLinear plan → AreApart plan → IsWhole plan f forks pool trail → (state_after_under plan forks pool trail).rows ≡ together plan f
ends_by plan f forks pool trail linear apart run =
    let first : IsGood plan (first_state plan forks pool) = (first_idle 0 (length plan.inventory.hosts), along_first plan forks pool run.some) in
    let kept = trail_keeps plan f (first_state plan forks pool) trail linear apart first run.legal run.is_fixed in
    sym (end_value plan f (state_after_under plan forks pool trail) (open_play plan (state_after_under plan forks pool trail)) linear refl run.finished run.unstopped kept.0.0) ∙ kept.1

pub ends_together : EndsTogether
ends_together plan f forks pool trail linear independent run = ends_by plan f forks pool trail (all_linear plan.plays linear) (apart_of plan independent) run
