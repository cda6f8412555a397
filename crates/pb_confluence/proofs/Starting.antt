-- A start, a send and a report: an event of one host.
use Rattle.std.proofs.Common.{◌≡◌, ℕ, zero, suc, ◌+◌, Bool, true, false, ◌&&◌, ◌||◌, not, List, [], ◌∷◌, map, take, cond, refl, sym, ◌∙◌, ap, subst, arith}
use Rattle.std.proofs.lemmas.Bool.{eqb-true, eq-eqb}
use Rattle.std.proofs.lemmas.List.Sums.{sum_by-cons}
use Rattle.std.specs.Prelude.{◌==◌, nat_eq, Option, Some, None, option_map, is_some, slice_get}
use Rattle.std.specs.List.{list_any}
use Rattle.std.specs.Option.{option_map_or}
use Rattle.pb_limits.specs.Counts.{runs_at, running_at}
use Rattle.pb_ids.specs.declared.numbers.Ticket.{Ticket}
use Rattle.pb_outcome.specs.declared.job.Report.{Report}
use Rattle.pb_plan.specs.Plan.{PlayOf, PlanOf}
use Rattle.pb_task_vars.specs.Results.{items_at}
use Rattle.pb_strategies.specs.declared.standings.Standing.{Standing}
use Rattle.pb_strategies.specs.declared.strategy.Strategy.{Strategy}
use Rattle.pb_strategies.specs.declared.strategy.Strategy.TheVariants.{Linear}
use Rattle.pb_strategies.specs.Hosts.{is_running as standing_runs, is_next_at, runs_in, same_place}
use Rattle.pb_strategies.specs.MayStart.{has_room, has_room_at, is_open_once, is_first_at, may_run_once, suits, may_start_at, may_start_from, is_linear}
use Rattle.pb_host.specs.declared.host.Running.{Running}
use Rattle.pb_host.specs.Host.{HostOf, next_place, progressed, sent, reported, runs_once_at}
use Rattle.pb_host.specs.Runs.{is_running, sends_running, may_send_item, awaits_running, awaits}
use Rattle.pb_host.specs.Standing.{standing}
use Rattle.pb_hosts.specs.Hosts.{at_row, change}
use Rattle.pb_hosts.specs.Turn.{has_done_run_once, is_run_once_done_at, is_run_once_done}
use Rattle.pb_state.specs.Machine.{open_play, next_at, may_start_in, may_send_in, may_report_in, start_at, started_in, sent_in, reported_in}
use Rattle.pb_state.specs.Jobs.{row_job, job_in, job_of}
use Rattle.pb_state.specs.State.{State}
use Rattle.pb_state.specs.Strategies.{view_of}
use Rattle.pb_state.specs.Walks.{AreNumbered}
use Rattle.pb_state.specs.Local.{starts}
use Rattle.pb_state.proofs.Local.{opened, change_at, start_local, report_rows}
use Rattle.pb_state.proofs.Stands.{runs_same, linear_is}
use Rattle.pb_confluence.specs.Fixed.{Fixed, outcome_of}
use Rattle.pb_confluence.specs.Effect.{outcome_for, started, complete}
use Rattle.pb_independence.specs.Apart.{AreApart}
use Rattle.pb_independence.proofs.Tests.{and_left, and_right, none_false}
use Rattle.pb_confluence.proofs.Lists.{Every, every_at, every_changed, found_in, number_at}
use Rattle.pb_confluence.proofs.Once.{Before, Fresh, Solo, IfOnce, on_once, running_first, solo_changed, solo_started, open_fresh, first_before}
use Rattle.pb_confluence.proofs.Rows.{RunsAt, IsWell, start_whole, send_whole, report_whole, progressed_well, sent_well, reported_well, any_ticket}
use Rattle.pb_confluence.proofs.Values.{in_open, rest, value, Holds, HoldsIn, row_changed}

-- ---- what such an event keeps
abbrev pub KeepsRows : PlanOf → Fixed → State → List HostOf → Type 0
KeepsRows plan f s new = HoldsIn s.place new (open_play plan s) × (rest plan f s.is_open s.ended s.place s.play (record { rows = new; sizes_left = s.sizes_left }) ≡ value plan f s)

-- and what any event does
abbrev pub Keeps : PlanOf → Fixed → State → State → Type 0
Keeps plan f s t = HoldsIn t.place t.rows (open_play plan t) × (value plan f t ≡ value plan f s)

-- the value of a state whose batch is open
pub open_value : (plan : PlanOf) (f : Fixed) (s : State) (play : PlayOf) (rows : List HostOf) → open_play plan s ≡ Some play
    → rest plan f s.is_open s.ended s.place s.play (record { rows = rows; sizes_left = s.sizes_left }) ≡ in_open plan f s.play s.place (record { rows = rows; sizes_left = s.sizes_left }) play
open_value plan f s play rows o =
    let is = opened s.is_open (slice_get plan.plays s.play) play o in
    ap (λ (b : Bool). rest plan f b s.ended s.place s.play (record { rows = rows; sizes_left = s.sizes_left })) is.0
    ∙ ap (λ (found : Option PlayOf). option_map_or (in_open plan f s.play s.place (record { rows = rows; sizes_left = s.sizes_left })) found rows) is.1

pub keeps_rows : (plan : PlanOf) (f : Fixed) (s : State) (play : PlayOf) (new : List HostOf) → open_play plan s ≡ Some play → Holds play s.place new
    → in_open plan f s.play s.place (record { rows = new; sizes_left = s.sizes_left }) play ≡ in_open plan f s.play s.place (record { rows = s.rows; sizes_left = s.sizes_left }) play → KeepsRows plan f s new
keeps_rows plan f s play new o holds same =
    (subst (λ (found : Option PlayOf). HoldsIn s.place new found) (sym o) holds, open_value plan f s play new o ∙ same ∙ sym (open_value plan f s play s.rows o))

pub row_test : (test : HostOf → Bool) (rows : List HostOf) (h : ℕ) (row : HostOf) → at_row test rows h ≡ true → slice_get rows h ≡ Some row → test row ≡ true
row_test test rows h row e found = sym (ap (λ (o : Option HostOf). option_map_or test o false) found) ∙ e

-- ---- a start
-- what a start is possible under in a linear play
pub record IsStart (s : State) (h : ℕ) (play : PlayOf) : Type 0 where
  pub row : HostOf
  pub there : slice_get s.rows h ≡ Some row
  pub idle : row.running ≡ None
  pub place : ℕ
  pub next : next_place row ≡ Some place
  pub current : s.place ≡ Some place
  pub once : runs_once_at play place ≡ true → (is_open_once (view_of s play) place ≡ true) × (list_any (is_next_at (Some place)) (take h (map standing s.rows)) ≡ false)

idle_is : (x : Option Running) → not (is_some x) ≡ true → x ≡ None
idle_is None e = refl
idle_is (Some r) e = cc

not_is : (b : Bool) → not b ≡ true → b ≡ false
not_is true e = cc
not_is false e = refl

same_is : (place : Option ℕ) (p : ℕ) → same_place place (Some p) ≡ true → place ≡ Some p
same_is None p e = cc
same_is (Some q) p e = ap Some (eqb-true q p e)

once_of : (once may : Bool) → (not once || may) ≡ true → once ≡ true → may ≡ true
once_of true may e o = e
once_of false may e o = cc

starts_at : (s : State) (h : ℕ) (play : PlayOf) (row : HostOf) (next : Option ℕ) → is_linear play.strategy ≡ true → slice_get s.rows h ≡ Some row → row.running ≡ None → next_place row ≡ next
    → option_map_or (may_start_at (view_of s play) h (standing row)) next false ≡ true → IsStart s h play
starts_at s h play row None l there idle n e = cc
starts_at s h play row (Some p) l there idle n e =
    let asked : suits Linear (view_of s play) h (standing row) p ≡ true =
    ap (λ (strategy : Strategy). suits strategy (view_of s play) h (standing row) p) (sym (linear_is play.strategy l)) ∙ and_right (has_room_at (view_of s play) p) (suits play.strategy (view_of s play) h (standing row) p) e in
    let may = and_right (same_place s.place (Some p)) (not (runs_once_at play p) || may_run_once (view_of s play) h p) asked in
    record {
      row = row;
      there = there;
      idle = idle;
      place = p;
      next = n;
      current = same_is s.place p (and_left (same_place s.place (Some p)) (not (runs_once_at play p) || may_run_once (view_of s play) h p) asked);
      once =
          λ o.
          let both = once_of (runs_once_at play p) (may_run_once (view_of s play) h p) may o in (
            and_left (is_open_once (view_of s play) p) (is_first_at (map standing s.rows) p h) both,
            not_is (list_any (is_next_at (Some p)) (take h (map standing s.rows))) (and_right (is_open_once (view_of s play) p) (is_first_at (map standing s.rows) p h) both),
          );
    }

get_standing : (rows : List HostOf) (h : ℕ) → slice_get (map standing rows) h ≡ option_map standing (slice_get rows h)
get_standing [] h = refl
get_standing (row ∷ rows) zero = refl
get_standing (row ∷ rows) (suc h) = get_standing rows h

starts_found : (s : State) (h : ℕ) (play : PlayOf) (found : Option HostOf) → is_linear play.strategy ≡ true → slice_get s.rows h ≡ found
    → option_map_or (may_start_from (view_of s play) h) (option_map standing found) false ≡ true → IsStart s h play
starts_found s h play None l there e = cc
starts_found s h play (Some row) l there e =
    let idle : not (is_some row.running) ≡ true =
    ap not (sym (runs_same row.running)) ∙ and_left (not (standing_runs (standing row))) (option_map_or (may_start_at (view_of s play) h (standing row)) (next_place row) false) e in
    starts_at s h play row (next_place row) l there (idle_is row.running idle) refl
    (and_right (not (standing_runs (standing row))) (option_map_or (may_start_at (view_of s play) h (standing row)) (next_place row) false) e)

pub is_start : (s : State) (h : ℕ) (play : PlayOf) → is_linear play.strategy ≡ true → may_start_in s h play ≡ true → IsStart s h play
is_start s h play l e =
    starts_found s h play (slice_get s.rows h) l refl
    (ap (λ (o : Option Standing). option_map_or (may_start_from (view_of s play) h) o false) (sym (get_standing s.rows h))
    ∙ and_right (has_room (view_of s play)) (option_map_or (may_start_from (view_of s play) h) (slice_get (map standing s.rows) h) false) e)

-- where nobody runs a place, and all that run are at it, nobody runs
runs_there : (p : ℕ) (row : HostOf) (x : Option Running) → RunsAt (Some p) row x → ◌≡◌ {A = ℕ} (cond (runs_at p (option_map (λ (r : Running). r.place) x)) 1 0) 0 → is_some x ≡ false
runs_there p row None h e = refl
runs_there p row (Some r) h e =
    let same : nat_eq p r.place ≡ true = (let at : p ≡ r.place = (let both : Some p ≡ Some r.place = h.0 in cc) in eq-eqb p r.place at) in
    let one : ◌≡◌ {A = ℕ} (cond (nat_eq p r.place) 1 0) 1 = ap (λ (b : Bool). cond b 1 0) same in
    absurd (omega (arith, one, e))

none_there : (p : ℕ) (rows : List HostOf) → Every (IsWell (Some p)) rows → running_at (runs_in (map standing rows)) p ≡ 0 → list_any is_running rows ≡ false
none_there p [] all e = refl
none_there p (row ∷ rows) all e =
    let on = sum_by-cons (λ (r : Option ℕ). cond (runs_at p r) 1 0) (option_map (λ (r : Running). r.place) row.running) (runs_in (map standing rows)) in
    none_false (is_running row) (list_any is_running rows) (runs_there p row row.running all.0.0 (omega (arith, on, e))) (none_there p rows all.1 (omega (arith, on, e)))

-- the rows once a host started
pub start_rows : (plan : PlanOf) (s : State) (h n : ℕ) (play : PlayOf) (p : ℕ) → AreApart plan → slice_get plan.plays n ≡ Some play → AreNumbered 0 s.rows → (start_at plan s h play p).rows ≡ change s.rows h (started plan play p)
start_rows plan s h n play p apart there numbered =
    start_local plan s h n play p apart there
    ∙ change_at s.rows h (starts plan play h p) (started plan play p)
    (λ row found. ap (λ (k : ℕ). progressed plan.inventory play p (items_at plan play k row.facts p) row) (sym (number_at 0 s.rows h row numbered found ∙ (let same : 0 + h ≡ h = omega arith in same))))

-- what was open for all is fresh
once_fresh : (s : State) (play : PlayOf) (p : ℕ) (rows : List HostOf) → s.place ≡ Some p → s.rows ≡ rows → Every (IsWell (Some p)) rows → runs_once_at play p ≡ true → is_open_once (view_of s play) p ≡ true → Every (Fresh p) rows
once_fresh s play p rows current is all once open_once =
    let nobody : running_at (runs_in (map standing rows)) p ≡ 0 =
    ap (λ (xs : List HostOf). running_at (runs_in (map standing xs)) p) (sym is)
    ∙ eqb-true (running_at (runs_in (map standing s.rows)) p) 0 (and_left (nat_eq (running_at (runs_in (map standing s.rows)) p) 0) (not (is_run_once_done play s.rows s.place)) open_once) in
    let not_done : is_run_once_done play s.rows s.place ≡ false =
    not_is (is_run_once_done play s.rows s.place) (and_right (nat_eq (running_at (runs_in (map standing s.rows)) p) 0) (not (is_run_once_done play s.rows s.place)) open_once) in
    let none : (runs_once_at play p && list_any (has_done_run_once p) rows) ≡ false =
    sym (ap (λ (place : Option ℕ). option_map_or (is_run_once_done_at play s.rows) place false) current ∙ ap (λ (xs : List HostOf). runs_once_at play p && list_any (has_done_run_once p) xs) is) ∙ not_done in
    open_fresh p rows (none_there p rows all nobody) (played_out_none (runs_once_at play p) (list_any (has_done_run_once p) rows) once none)
  where
    played_out_none : (a b : Bool) → a ≡ true → (a && b) ≡ false → b ≡ false
    played_out_none true b e f = f
    played_out_none false b e f = cc

if_once : (b : Bool) (A : Type 0) → (b ≡ true → A) → IfOnce b A
if_once true A on = on refl
if_once false A on = tt

start_core : (plan : PlanOf) (f : Fixed) (s : State) (play : PlayOf) (h p : ℕ) → s.place ≡ Some p → IsStart s h play
    → ((row : HostOf) → slice_get s.rows h ≡ Some row → (row.running ≡ None) × (next_place row ≡ Some p))
    → (runs_once_at play p ≡ true → (is_open_once (view_of s play) p ≡ true) × (list_any (is_next_at (Some p)) (take h (map standing s.rows)) ≡ false))
    → Holds play (Some p) s.rows
    → Holds play (Some p) (change s.rows h (started plan play p))
    × (in_open plan f s.play (Some p) (record { rows = change s.rows h (started plan play p); sizes_left = s.sizes_left }) play ≡ in_open plan f s.play (Some p) (record { rows = s.rows; sizes_left = s.sizes_left }) play)
start_core plan f s play h p current is at once holds =
    let fresh : IfOnce (runs_once_at play p) (Every (Fresh p) s.rows × Before p s.rows h) =
    if_once (runs_once_at play p) (Every (Fresh p) s.rows × Before p s.rows h)
    (λ o. let all = once_fresh s play p s.rows current refl holds.0 o (once o).0 in (all, first_before p s.rows h all (once o).1)) in (
      (
        every_changed (IsWell (Some p)) (started plan play p) s.rows h (λ row found. progressed_well plan.inventory play p (items_at plan play row.host row.facts p) row (at row found).1) holds.0,
        on_once (runs_once_at play p) (Every (Fresh p) s.rows × Before p s.rows h) (Solo p (change s.rows h (started plan play p))) (λ two. solo_started p (started plan play p) s.rows h two.0 two.1) fresh,
      ),
      row_changed plan f s.play p h play s.rows s.sizes_left (started plan play p) (on_once (runs_once_at play p) (Every (Fresh p) s.rows × Before p s.rows h) (Before p s.rows h) (λ two. two.1) fresh)
          (λ row found. start_whole plan f s.play play p row (at row found).0 (at row found).1),
    )

pub start_keeps : (plan : PlanOf) (f : Fixed) (s : State) (h : ℕ) (play : PlayOf) → AreApart plan → AreNumbered 0 s.rows → open_play plan s ≡ Some play → Holds play s.place s.rows → IsStart s h play → Keeps plan f s (started_in plan s h play)
start_keeps plan f s h play apart numbered o holds is =
    let there = opened s.is_open (slice_get plan.plays s.play) play o in
    let at : (row : HostOf) → slice_get s.rows h ≡ Some row → (row.running ≡ None) × (next_place row ≡ Some is.place) =
    (λ row found. let same : is.row ≡ row = (let both : Some is.row ≡ Some row = sym is.there ∙ found in cc) in subst (λ (r : HostOf). (r.running ≡ None) × (next_place r ≡ Some is.place)) same (is.idle, is.next)) in
    let next : next_at s h ≡ Some is.place = ap (λ (found : Option HostOf). option_map_or next_place found None) is.there ∙ is.next in
    let core = start_core plan f s play h is.place is.current is at is.once (subst (λ (q : Option ℕ). Holds play q s.rows) is.current holds) in
    let moved = subst
    (λ (q : Option ℕ). Holds play q (change s.rows h (started plan play is.place))
    × (in_open plan f s.play q (record { rows = change s.rows h (started plan play is.place); sizes_left = s.sizes_left }) play ≡ in_open plan f s.play q (record { rows = s.rows; sizes_left = s.sizes_left }) play))
    (sym is.current) core in
    subst (λ (place : Option ℕ). Keeps plan f s (option_map_or (start_at plan s h play) place s)) (sym next)
    (subst (KeepsRows plan f s) (sym (start_rows plan s h s.play play is.place apart there.1 numbered))
    (keeps_rows plan f s play (change s.rows h (started plan play is.place)) o moved.0 moved.1))

-- ---- a send, a report: an event of a host that runs
pub sends_some : (item attempt : ℕ) (x : Option Running) → option_map_or (sends_running item attempt) x false ≡ true → (r : Running) × (x ≡ Some r)
sends_some item attempt None e = cc
sends_some item attempt (Some r) e = (r, refl)

pub awaits_some : (ticket : Ticket) (item attempt : ℕ) (x : Option Running) → option_map_or (awaits_running ticket item attempt) x false ≡ true → (r : Running) × (x ≡ Some r)
awaits_some ticket item attempt None e = cc
awaits_some ticket item attempt (Some r) e = (r, refl)

-- what such an event's change of the row has to give
record Unseen (plan : PlanOf) (f : Fixed) (number p : ℕ) (play : PlayOf) (c : HostOf → HostOf) (row : HostOf) : Type 0 where
  well : IsWell (Some p) (c row)
  same : complete plan f number play p (c row) ≡ complete plan f number play p row

goes_on_at : (plan : PlanOf) (f : Fixed) (s : State) (play : PlayOf) (h p : ℕ) (c : HostOf → HostOf) (at : HostOf) → slice_get s.rows h ≡ Some at → is_running at ≡ true → Holds play (Some p) s.rows
    → ((row : HostOf) → slice_get s.rows h ≡ Some row → Unseen plan f s.play p play c row)
    → Holds play (Some p) (change s.rows h c) × (in_open plan f s.play (Some p) (record { rows = change s.rows h c; sizes_left = s.sizes_left }) play ≡ in_open plan f s.play (Some p) (record { rows = s.rows; sizes_left = s.sizes_left }) play)
goes_on_at plan f s play h p c at found runs holds on = (
  (
    every_changed (IsWell (Some p)) c s.rows h (λ row there. (on row there).well) holds.0,
    on_once (runs_once_at play p) (Solo p s.rows) (Solo p (change s.rows h c)) (λ solo. solo_changed p c s.rows h at solo found runs) holds.1,
  ),
  row_changed plan f s.play p h play s.rows s.sizes_left c (on_once (runs_once_at play p) (Solo p s.rows) (Before p s.rows h) (λ solo. running_first p s.rows h at solo found runs) holds.1)
      (λ row there. (on row there).same),
)

goes_on : (plan : PlanOf) (f : Fixed) (s : State) (play : PlayOf) (h p : ℕ) (c : HostOf → HostOf) (at : HostOf) → open_play plan s ≡ Some play → s.place ≡ Some p → slice_get s.rows h ≡ Some at → is_running at ≡ true
    → Holds play s.place s.rows → ((row : HostOf) → slice_get s.rows h ≡ Some row → Unseen plan f s.play p play c row) → KeepsRows plan f s (change s.rows h c)
goes_on plan f s play h p c at o current found runs holds on =
    let core = goes_on_at plan f s play h p c at found runs (subst (λ (q : Option ℕ). Holds play q s.rows) current holds) on in
    let moved = subst
    (λ (q : Option ℕ). Holds play q (change s.rows h c)
    × (in_open plan f s.play q (record { rows = change s.rows h c; sizes_left = s.sizes_left }) play ≡ in_open plan f s.play q (record { rows = s.rows; sizes_left = s.sizes_left }) play))
    (sym current) core in
    keeps_rows plan f s play (change s.rows h c) o moved.0 moved.1

pub same_row : (one other : HostOf) (found : Option HostOf) → found ≡ Some one → found ≡ Some other → one ≡ other
same_row one other None e f = cc
same_row one other (Some row) e f = cc

send_runs : (plan : PlanOf) (f : Fixed) (s : State) (h : ℕ) (ticket : Ticket) (play : PlayOf) (row : HostOf) (r : Running) → open_play plan s ≡ Some play → slice_get s.rows h ≡ Some row → row.running ≡ Some r → Holds play s.place s.rows
    → Keeps plan f s (sent_in s h ticket play)
send_runs plan f s h ticket play row r o there runs holds =
    let well : RunsAt s.place row (Some r) = subst (RunsAt s.place row) runs (every_at (IsWell s.place) s.rows h row holds.0 there).0 in
    goes_on plan f s play h r.place (sent ticket) row o well.0 there (ap is_some runs) holds
    (λ other found.
    let same = same_row row other (slice_get s.rows h) there found in
    record {
      well = sent_well (Some r.place) ticket other (subst (λ (q : Option ℕ). IsWell q other) well.0 (every_at (IsWell s.place) s.rows h other holds.0 found));
      same = send_whole plan f s.play play r.place ticket other r (subst (λ (x : HostOf). x.running ≡ Some r) same runs) well.2;
    })

pub send_keeps : (plan : PlanOf) (f : Fixed) (s : State) (h item attempt : ℕ) (ticket : Ticket) (play : PlayOf) → open_play plan s ≡ Some play → may_send_in s h item attempt ticket play ≡ true → Holds play s.place s.rows → Keeps plan f s (sent_in s h ticket play)
send_keeps plan f s h item attempt ticket play o may holds =
    let sends = and_right (not s.stopped && (ticket.0 == s.sends)) (at_row (may_send_item item attempt) s.rows h) may in
    let at = found_in (may_send_item item attempt) (slice_get s.rows h) sends in
    let some = sends_some item attempt at.0.running at.2 in
    send_runs plan f s h ticket play at.0 some.0 o at.1 some.1 holds

-- ---- a report
-- what is fixed for the job is what is fixed for the row's next job
pub fixed_row : (plan : PlanOf) (f : Fixed) (s : State) (r : Report) (play : PlayOf) (row : HostOf) → open_play plan s ≡ Some play → slice_get s.rows r.host.0 ≡ Some row → AreNumbered 0 s.rows → r.outcome ≡ outcome_of f (job_of plan s r.host r.ticket)
    → r.outcome ≡ outcome_for plan f s.play play row
fixed_row plan f s r play row o there numbered is =
    is
    ∙ ap (λ (found : Option PlayOf). outcome_of f (option_map_or (job_in plan s r.host r.ticket) found None)) o
    ∙ ap (λ (found : Option HostOf). outcome_of f (option_map_or (row_job plan s.play r.host r.ticket play) found None)) there
    ∙ any_ticket plan f s.play r.host r.ticket play row (number_at 0 s.rows r.host.0 row numbered there ∙ (let same : 0 + r.host.0 ≡ r.host.0 = omega arith in same))

report_runs : (plan : PlanOf) (f : Fixed) (s : State) (r : Report) (play : PlayOf) (row : HostOf) (t : Running) → AreApart plan → AreNumbered 0 s.rows → open_play plan s ≡ Some play → slice_get s.rows r.host.0 ≡ Some row → row.running ≡ Some t
    → r.outcome ≡ outcome_of f (job_of plan s r.host r.ticket) → Holds play s.place s.rows → Keeps plan f s (reported_in plan s r play)
report_runs plan f s r play row t apart numbered o there runs is holds =
    let well : RunsAt s.place row (Some t) = subst (RunsAt s.place row) runs (every_at (IsWell s.place) s.rows r.host.0 row holds.0 there).0 in
    let opens = opened s.is_open (slice_get plan.plays s.play) play o in
    subst (KeepsRows plan f s) (sym (report_rows plan s r s.play play apart opens.1))
    (goes_on plan f s play r.host.0 t.place (reported plan play r.outcome) row o well.0 there (ap is_some runs) holds
    (λ other found.
    let same = same_row row other (slice_get s.rows r.host.0) there found in
    record {
      well = reported_well plan play r.outcome t.place other (subst (λ (q : Option ℕ). IsWell q other) well.0 (every_at (IsWell s.place) s.rows r.host.0 other holds.0 found));
      same =
          report_whole plan f s.play play r.outcome other t (subst (λ (x : HostOf). x.running ≡ Some t) same runs) (subst (λ (x : HostOf). next_place x ≡ Some t.place) same well.1) well.2
          (fixed_row plan f s r play other o found numbered is);
    }))

pub report_keeps : (plan : PlanOf) (f : Fixed) (s : State) (r : Report) (play : PlayOf) → AreApart plan → AreNumbered 0 s.rows → open_play plan s ≡ Some play → may_report_in s r play ≡ true
    → r.outcome ≡ outcome_of f (job_of plan s r.host r.ticket) → Holds play s.place s.rows → Keeps plan f s (reported_in plan s r play)
report_keeps plan f s r play apart numbered o may is holds =
    let at = found_in (awaits r.ticket r.item r.attempt) (slice_get s.rows r.host.0) may in
    let some = awaits_some r.ticket r.item r.attempt at.0.running at.2 in
    report_runs plan f s r play at.0 some.0 apart numbered o at.1 some.1 is holds
