-- Where nobody runs and nobody may start: under the linear strategy no host is at the current place, unless one did the task there for all, and else
-- no host has a next place.
use Rattle.std.proofs.Common.{◌≡◌, ℕ, zero, suc, ◌<◌, Bool, true, false, ◌&&◌, ◌||◌, not, List, [], ◌∷◌, map, take, refl, sym, ◌∙◌, ap, arith, cond, subst, ◌⊎◌, inl, inr}
use Rattle.std.specs.Prelude.{Option, Some, None, option_map, slice_get, slice_index_or, is_some, nat_eq, nat_lt, nat_le, min, count_by, if◌then◌else◌}
use Rattle.std.specs.List.{list_any}
use Rattle.std.specs.Option.{option_map_or}
use Rattle.std.proofs.lemmas.Bool.{lt-ltb, eq-eqb, eqb-true, leb-true, leb-false}
use Rattle.std.proofs.lemmas.List.Sums.{sum_by-cons}
use Rattle.pb_limits.specs.Counts.{runs_at, running, running_at, has_room_for}
use Rattle.pb_planes.specs.Set.{has_some}
use Rattle.pb_plan.specs.Plan.{PlayOf, throttles_of}
use Rattle.pb_strategies.specs.declared.standings.Standing.{Standing}
use Rattle.pb_strategies.specs.declared.strategy.Strategy.{Strategy}
use Rattle.pb_strategies.specs.declared.strategy.Strategy.TheVariants.{Linear, Free, HostPinned}
use Rattle.pb_strategies.specs.Hosts.{is_running as standing_runs, is_under_way, is_next_at, runs_in, same_place as same_there}
use Rattle.pb_strategies.specs.MayStart.{ViewOf, has_room, has_room_at, has_room_to_begin, runs_once, is_open_once, is_first_at, may_run_once, suits, may_start_at, may_start_from, may_start, is_linear, is_idle, ready as starting}
use Rattle.pb_host.specs.declared.host.Running.{Running}
use Rattle.pb_host.specs.Host.{HostOf, next_place, runs_once_at}
use Rattle.pb_state.specs.State.{State}
use Rattle.pb_hosts.specs.Turn.{has_done_run_once, is_run_once_done, is_run_once_done_at, run_once_host, source}
use Rattle.pb_host.specs.Standing.{has_begun, standing}
use Rattle.pb_state.specs.Strategies.{view_of}
use Rattle.pb_host.specs.Runs.{is_running}
use Rattle.pb_hosts.specs.Hosts.{at_row, lesser, least_place}
use Rattle.pb_state.specs.Machine.{same_place, may_turn_in}
use Rattle.pb_state.proofs.Stands.{both, runs_same, linear_is, none_starts}

and_left : (a b : Bool) → (a && b) ≡ true → a ≡ true
and_left true b e = refl
and_left false b e = cc

and_right : (a b : Bool) → (a && b) ≡ true → b ≡ true
and_right true b e = e
and_right false b e = cc

or_left : (a b : Bool) → (a || b) ≡ false → a ≡ false
or_left true b e = e
or_left false b e = refl

or_right : (a b : Bool) → (a || b) ≡ false → b ≡ false
or_right true b e = cc
or_right false b e = e

or_true : (b : Bool) → (b || true) ≡ true
or_true true = refl
or_true false = refl

not_false : (b : Bool) → not b ≡ true → b ≡ false
not_false true e = cc
not_false false e = refl

-- ---- nobody runs
pub idle_runs : (rows : List HostOf) → list_any is_running rows ≡ false → running (runs_in (map standing rows)) ≡ 0
idle_runs [] e = refl
idle_runs (row ∷ rows) e =
    let rest = idle_runs rows (or_right (is_running row) _ e) in
    let here : ◌≡◌ {A = ℕ} (cond (is_some (option_map (λ (r : Running). r.place) row.running)) 1 0) 0 = ap (λ (b : Bool). cond b 1 0) (runs_same row.running ∙ or_left (is_running row) _ e) in
    let on = sum_by-cons (λ (r : Option ℕ). cond (is_some r) 1 0) (option_map (λ (r : Running). r.place) row.running) (runs_in (map standing rows)) in
    omega (arith, rest, here, on)

none_false : (a b : Bool) → a ≡ false → b ≡ false → (a || b) ≡ false
none_false true b e f = e
none_false false b e f = f

pub runs_idle : (rows : List HostOf) → running (runs_in (map standing rows)) ≡ 0 → list_any is_running rows ≡ false
runs_idle [] e = refl
runs_idle (row ∷ rows) e =
    let on = sum_by-cons (λ (r : Option ℕ). cond (is_some r) 1 0) (option_map (λ (r : Running). r.place) row.running) (runs_in (map standing rows)) in
    let here = none_runs (is_some (option_map (λ (r : Running). r.place) row.running)) (omega (arith, on, e)) in
    none_false (is_running row) (list_any is_running rows) (sym (runs_same row.running) ∙ here) (runs_idle rows (omega (arith, on, e)))
  where
    none_runs : (b : Bool) → ◌≡◌ {A = ℕ} (cond b 1 0) 0 → b ≡ false
    none_runs true f = absurd (omega (arith, f))
    none_runs false f = refl

idle_at : (p : ℕ) (found : Option Running) → is_some found ≡ false → runs_at p (option_map (λ (r : Running). r.place) found) ≡ false
idle_at p None e = refl
idle_at p (Some r) e = cc

none_at : (p : ℕ) (rows : List HostOf) → list_any is_running rows ≡ false → running_at (runs_in (map standing rows)) p ≡ 0
none_at p [] e = refl
none_at p (row ∷ rows) e =
    let rest = none_at p rows (or_right (is_running row) _ e) in
    let here : ◌≡◌ {A = ℕ} (cond (runs_at p (option_map (λ (r : Running). r.place) row.running)) 1 0) 0 = ap (λ (b : Bool). cond b 1 0) (idle_at p row.running (or_left (is_running row) _ e)) in
    let on = sum_by-cons (λ (r : Option ℕ). cond (runs_at p r) 1 0) (option_map (λ (r : Running). r.place) row.running) (runs_in (map standing rows)) in
    omega (arith, rest, here, on)

-- so there is room
room_for : (throttle : ℕ) → has_room_for 0 throttle ≡ true
room_for zero = refl
room_for (suc throttle) = rw (lt-ltb 0 (suc throttle) (omega arith)) (or_true (nat_eq (suc throttle) 0))

idle_room_at : (s : State) (play : PlayOf) (p : ℕ) → list_any is_running s.rows ≡ false → has_room_at (view_of s play) p ≡ true
idle_room_at s play p e = ap (λ (n : ℕ). has_room_for n (slice_index_or (throttles_of play.places) p 0)) (none_at p s.rows e) ∙ room_for (slice_index_or (throttles_of play.places) p 0)

idle_room : (s : State) (play : PlayOf) → s.stopped ≡ false → list_any is_running s.rows ≡ false → 0 < s.forks → has_room (view_of s play) ≡ true
idle_room s play st e f =
    both (not s.stopped) (nat_lt (running (runs_in (map standing s.rows))) s.forks) (ap not st) (ap (λ (n : ℕ). nat_lt n s.forks) (idle_runs s.rows e) ∙ lt-ltb 0 s.forks f)

-- a host that passes a test starts, where the strategy asks no more of one that does
starts_there : (view : ViewOf) (n : ℕ) (test : HostOf → Bool) (rows : List HostOf) (h : ℕ) → list_any is_running rows ≡ false
    → ((row : HostOf) → test row ≡ true → option_map_or (may_start_at view n (standing row)) (next_place row) false ≡ true) → at_row test rows h ≡ true
    → option_map_or (may_start_from view n) (slice_get (map standing rows) h) false ≡ true
starts_there view n test [] h idle each e = cc
starts_there view n test (row ∷ rows) zero idle each e =
    both (not (standing_runs (standing row))) (option_map_or (may_start_at view n (standing row)) (next_place row) false) (ap not (runs_same row.running ∙ or_left (is_running row) _ idle)) (each row e)
starts_there view n test (row ∷ rows) (suc h) idle each e = starts_there view n test rows h (or_right (is_running row) _ idle) each e

never : (a : Bool) → a ≡ false → (a ≡ true → ⊥)
never a e f = let both_ways : true ≡ false = sym f ∙ e in cc

-- so that no host passes it where nobody may start
none_passes : (s : State) (play : PlayOf) (test : HostOf → Bool) → s.stopped ≡ false → list_any is_running s.rows ≡ false → 0 < s.forks → has_some (starting (view_of s play)) ≡ false
    → ((n : ℕ) (row : HostOf) → test row ≡ true → option_map_or (may_start_at (view_of s play) n (standing row)) (next_place row) false ≡ true) → (h : ℕ) → at_row test s.rows h ≡ false
none_passes s play test st idle f none each h = by_test (at_row test s.rows h) refl
  where
    by_test : (b : Bool) → at_row test s.rows h ≡ b → b ≡ false
    by_test false e = refl
    by_test true e =
        absurd
        (never (may_start (view_of s play) h) (none_starts s play h none)
        (both (has_room (view_of s play)) (option_map_or (may_start_from (view_of s play) h) (slice_get (map standing s.rows) h) false) (idle_room s play st idle f)
        (starts_there (view_of s play) h test s.rows h idle (each h) e)))

-- ---- linear
same_is : (a b : Option ℕ) → same_place a b ≡ true → a ≡ b
same_is (Some p) (Some q) e = ap Some (eqb-true p q e)
same_is (Some p) None e = cc
same_is None q e = cc

same_self : (a : Option ℕ) (p : ℕ) → a ≡ Some p → same_place a (Some p) ≡ true
same_self a p e = rw e (eq-eqb p p refl)

there_self : (a : Option ℕ) (p : ℕ) → a ≡ Some p → same_there a (Some p) ≡ true
there_self a p e = rw e (eq-eqb p p refl)

linear_each : (s : State) (play : PlayOf) (p n : ℕ) (row : HostOf) → play.strategy ≡ Linear → s.place ≡ Some p → list_any is_running s.rows ≡ false
    → (not (runs_once (view_of s play) p) || may_run_once (view_of s play) n p) ≡ true → same_place (next_place row) (Some p) ≡ true → option_map_or (may_start_at (view_of s play) n (standing row)) (next_place row) false ≡ true
linear_each s play p n row l at idle once e =
    ap (λ (next : Option ℕ). option_map_or (may_start_at (view_of s play) n (standing row)) next false) (same_is (next_place row) (Some p) e)
    ∙ both (has_room_at (view_of s play) p) (suits play.strategy (view_of s play) n (standing row) p) (idle_room_at s play p idle)
    (ap (λ (strategy : Strategy). suits strategy (view_of s play) n (standing row) p) l ∙ both (same_there s.place (Some p)) _ (there_self s.place p at) once)

min_is : (a b : ℕ) (t : Bool) → nat_le a b ≡ t → (min a b ≡ a) ⊎ (min a b ≡ b)
min_is a b true t = inl (omega (arith, leb-true a b t))
min_is a b false t = inr (omega (arith, leb-false a b t))

pub lesser_is : (a b : Option ℕ) (p : ℕ) → lesser a b ≡ Some p → (a ≡ Some p) ⊎ (b ≡ Some p)
lesser_is None q p e = inr e
lesser_is (Some a) None p e = inl e
lesser_is (Some a) (Some b) p e = elim (min_is a b (nat_le a b) refl) [ inl m ↦ inl (cc) | inr m ↦ inr (cc) ]

-- the first of these hosts whose next place this is
record FirstAt (p : ℕ) (rows : List HostOf) : Type 0 where
  at : ℕ
  here : at_row (λ (row : HostOf). same_place (next_place row) (Some p)) rows at ≡ true
  before : list_any (is_next_at (Some p)) (take at (map standing rows)) ≡ false

same_both : (next : Option ℕ) (p : ℕ) → same_there next (Some p) ≡ same_place next (Some p)
same_both (Some q) p = refl
same_both None p = refl

first_by : (p : ℕ) (row : HostOf) (rows : List HostOf) (b : Bool) → same_place (next_place row) (Some p) ≡ b → (least_place rows ≡ Some p → FirstAt p rows) → least_place (row ∷ rows) ≡ Some p → FirstAt p (row ∷ rows)
first_by p row rows true t behind e = record { at = 0; here = t; before = refl }
first_by p row rows false t behind e =
    elim (lesser_is (next_place row) (least_place rows) p e) [
      | inl here ↦ absurd (never (same_place (next_place row) (Some p)) t (same_self (next_place row) p here))
      | inr there ↦
          let next = behind there in
          record {
            at = suc next.at;
            here = next.here;
            before = none_false (same_there (next_place row) (Some p)) (list_any (is_next_at (Some p)) (take next.at (map standing rows))) (same_both (next_place row) p ∙ t) next.before;
          }
    ]

first_at : (p : ℕ) (rows : List HostOf) → least_place rows ≡ Some p → FirstAt p rows
first_at p [] e = cc
first_at p (row ∷ rows) e = first_by p row rows (same_place (next_place row) (Some p)) refl (first_at p rows) e

-- the host whose answer the others get did the task, and where there is none it isn't done
run_once_found : (p : ℕ) (b : Bool) (row from : HostOf) (found : Option HostOf) → has_done_run_once p row ≡ b → (found ≡ Some from → has_done_run_once p from ≡ true) → (if b then Some row else found) ≡ Some from → has_done_run_once p from ≡ true
run_once_found p true row from found t behind e = let same : row ≡ from = cc in subst (λ (r : HostOf). has_done_run_once p r ≡ true) same t
run_once_found p false row from found t behind e = behind e

run_once_host_did : (p : ℕ) (rows : List HostOf) (from : HostOf) → run_once_host p rows ≡ Some from → has_done_run_once p from ≡ true
run_once_host_did p [] from e = cc
run_once_host_did p (row ∷ rows) from e = run_once_found p (has_done_run_once p row) row from (run_once_host p rows) refl (run_once_host_did p rows from) e

source_did_run_once : (once : Bool) (p : ℕ) (rows : List HostOf) (from : HostOf) → (if once then run_once_host p rows else None) ≡ Some from → has_done_run_once p from ≡ true
source_did_run_once true p rows from e = run_once_host_did p rows from e
source_did_run_once false p rows from e = cc

not_run_once_behind : (b rest : Bool) (row : HostOf) (found : Option HostOf) → (found ≡ None → rest ≡ false) → (if b then Some row else found) ≡ None → (b || rest) ≡ false
not_run_once_behind true rest row found behind e = cc
not_run_once_behind false rest row found behind e = behind e

no_run_once_host : (p : ℕ) (rows : List HostOf) → run_once_host p rows ≡ None → list_any (has_done_run_once p) rows ≡ false
no_run_once_host p [] e = refl
no_run_once_host p (row ∷ rows) e = not_run_once_behind (has_done_run_once p row) (list_any (has_done_run_once p) rows) row (run_once_host p rows) (no_run_once_host p rows) e

no_source : (once : Bool) (p : ℕ) (rows : List HostOf) → (if once then run_once_host p rows else None) ≡ None → (once && list_any (has_done_run_once p) rows) ≡ false
no_source true p rows e = no_run_once_host p rows e
no_source false p rows e = refl

-- where it isn't done, the first host there may run it
once_open : (s : State) (play : PlayOf) (p n : ℕ) → s.place ≡ Some p → list_any is_running s.rows ≡ false → source play p s.rows ≡ None → list_any (is_next_at (Some p)) (take n (map standing s.rows)) ≡ false
    → (not (runs_once (view_of s play) p) || may_run_once (view_of s play) n p) ≡ true
once_open s play p n at idle none first =
    let not_done : is_run_once_done play s.rows s.place ≡ false = ap (λ (place : Option ℕ). option_map_or (is_run_once_done_at play s.rows) place false) at ∙ no_source (runs_once_at play p) p s.rows none in
    let nobody = eq-eqb (running_at (runs_in (map standing s.rows)) p) 0 (none_at p s.rows idle) in
    let may : may_run_once (view_of s play) n p ≡ true =
    both (is_open_once (view_of s play) p) (is_first_at (map standing s.rows) p n)
    (both (nat_eq (running_at (runs_in (map standing s.rows)) p) 0) (not (is_run_once_done play s.rows s.place)) nobody (ap not not_done)) (ap not first) in
    ap (λ (b : Bool). not (runs_once (view_of s play) p) || b) may ∙ or_true (not (runs_once (view_of s play) p))

-- what a turn is possible under
pub turn_place : (s : State) (play : PlayOf) → may_turn_in s play ≡ true → is_some s.place ≡ true
turn_place s play may = and_right (is_idle (view_of s play)) _ (and_left (is_idle (view_of s play) && is_some s.place) _ may)

pub turn_linear : (s : State) (play : PlayOf) → may_turn_in s play ≡ true → is_linear play.strategy ≡ true
turn_linear s play may =
    and_left (is_linear play.strategy) _
    (and_left (is_linear play.strategy && not s.stopped) _ (and_left (is_idle (view_of s play)) _ (and_left (is_idle (view_of s play) && is_some s.place) _ may)))

pub turn_idle : (s : State) (play : PlayOf) → may_turn_in s play ≡ true → list_any is_running s.rows ≡ false
turn_idle s play may =
    let idle = and_left (is_idle (view_of s play)) _ (and_left (is_idle (view_of s play) && is_some s.place) _ may) in
    runs_idle s.rows (eqb-true (running (runs_in (map standing s.rows))) 0 (and_right (is_linear play.strategy && not s.stopped) _ idle))

turn_linear_is : (s : State) (play : PlayOf) → may_turn_in s play ≡ true → play.strategy ≡ Linear
turn_linear_is s play may = linear_is play.strategy (turn_linear s play may)

turn_stopped : (s : State) (play : PlayOf) → may_turn_in s play ≡ true → s.stopped ≡ false
turn_stopped s play may =
    let idle = and_left (is_idle (view_of s play)) _ (and_left (is_idle (view_of s play) && is_some s.place) _ may) in
    not_false s.stopped (and_right (is_linear play.strategy) _ (and_left (is_linear play.strategy && not s.stopped) _ idle))

turn_none : (s : State) (play : PlayOf) → may_turn_in s play ≡ true → has_some (starting (view_of s play)) ≡ false
turn_none s play may = not_false (has_some (starting (view_of s play))) (and_right (is_idle (view_of s play) && is_some s.place) _ may)

-- a turn is possible at a current place that is the least only where a host did the task there, which runs once
pub turn_does_run_once : (s : State) (play : PlayOf) (p : ℕ) → 0 < s.forks → may_turn_in s play ≡ true → s.place ≡ Some p → least_place s.rows ≡ Some p → (from : HostOf) × (source play p s.rows ≡ Some from) × (has_done_run_once p from ≡ true)
turn_does_run_once s play p f may at least = by_source (source play p s.rows) refl
  where
    by_source : (found : Option HostOf) → source play p s.rows ≡ found → (from : HostOf) × (source play p s.rows ≡ Some from) × (has_done_run_once p from ≡ true)
    by_source (Some from) e = (from, e, source_did_run_once (runs_once_at play p) p s.rows from e)
    by_source None none =
        let first = first_at p s.rows least in
        let idle = turn_idle s play may in
        absurd
        (never (may_start (view_of s play) first.at) (none_starts s play first.at (turn_none s play may))
        (both (has_room (view_of s play)) (option_map_or (may_start_from (view_of s play) first.at) (slice_get (map standing s.rows) first.at) false) (idle_room s play (turn_stopped s play may) idle f)
        (starts_there (view_of s play) first.at (λ (row : HostOf). same_place (next_place row) (Some p)) s.rows first.at idle
        (λ row e. linear_each s play p first.at row (turn_linear_is s play may) at idle (once_open s play p first.at at idle none first.before) e) first.here)))

-- where nobody runs and nobody may start, it is possible
pub turns : (s : State) (play : PlayOf) → is_linear play.strategy ≡ true → s.stopped ≡ false → list_any is_running s.rows ≡ false → is_some s.place ≡ true → has_some (starting (view_of s play)) ≡ false → may_turn_in s play ≡ true
turns s play l st idle at none =
    both (is_idle (view_of s play) && is_some s.place) (not (has_some (starting (view_of s play))))
    (both (is_idle (view_of s play)) (is_some s.place)
    (both (is_linear play.strategy && not s.stopped) (nat_eq (running (runs_in (map standing s.rows))) 0) (both (is_linear play.strategy) (not s.stopped) l (ap not st))
    (eq-eqb (running (runs_in (map standing s.rows))) 0 (idle_runs s.rows idle))) at)
    (ap not none)

-- ---- the others
abbrev has_next : HostOf → Bool
has_next row = is_some (next_place row)

none_next : (rows : List HostOf) → ((h : ℕ) → at_row has_next rows h ≡ false) → least_place rows ≡ None
none_next [] none = refl
none_next (row ∷ rows) none = ap (λ (next : Option ℕ). lesser next (least_place rows)) (nothing (next_place row) (none 0)) ∙ none_next rows (λ h. none (suc h))
  where
    nothing : (next : Option ℕ) → is_some next ≡ false → next ≡ None
    nothing None e = refl
    nothing (Some p) e = cc

each_next : (s : State) (play : PlayOf) (n : ℕ) (row : HostOf) (next : Option ℕ) → list_any is_running s.rows ≡ false → ((p : ℕ) → suits play.strategy (view_of s play) n (standing row) p ≡ true) → is_some next ≡ true
    → option_map_or (may_start_at (view_of s play) n (standing row)) next false ≡ true
each_next s play n row None idle asked e = cc
each_next s play n row (Some p) idle asked e =
    both (has_room_at (view_of s play) p) (suits play.strategy (view_of s play) n (standing row) p) (idle_room_at s play p idle) (asked p)

free_done : (s : State) (play : PlayOf) → play.strategy ≡ Free → s.stopped ≡ false → list_any is_running s.rows ≡ false → 0 < s.forks → has_some (starting (view_of s play)) ≡ false → least_place s.rows ≡ None
free_done s play l st idle f none =
    none_next s.rows
    (none_passes s play has_next st idle f none
    (λ n row e. each_next s play n row (next_place row) idle (λ p. ap (λ (strategy : Strategy). suits strategy (view_of s play) n (standing row) p) l) e))

-- under host_pinned no host is under way then, so that any other may begin
abbrev begun_next : HostOf → Bool
begun_next row = has_begun row && is_some (next_place row)

none_under_way : (rows : List HostOf) → ((h : ℕ) → at_row begun_next rows h ≡ false) → count_by is_under_way (map standing rows) ≡ 0
none_under_way [] none = refl
none_under_way (row ∷ rows) none =
    let rest = none_under_way rows (λ h. none (suc h)) in
    let here : ◌≡◌ {A = ℕ} (cond (is_under_way (standing row)) 1 0) 0 = ap (λ (b : Bool). cond b 1 0) (none 0) in
    let on = sum_by-cons (λ (host : Standing). cond (is_under_way host) 1 0) (standing row) (map standing rows) in
    omega (arith, rest, here, on)

pinned_done : (s : State) (play : PlayOf) → play.strategy ≡ HostPinned → s.stopped ≡ false → list_any is_running s.rows ≡ false → 0 < s.forks → has_some (starting (view_of s play)) ≡ false → least_place s.rows ≡ None
pinned_done s play l st idle f none =
    let begun =
    none_passes s play begun_next st idle f none
    (λ n row e. each_next s play n row (next_place row) idle
    (λ p. ap (λ (strategy : Strategy). suits strategy (view_of s play) n (standing row) p) l ∙ or_left_true (has_begun row) (has_room_to_begin (view_of s play)) (and_left (has_begun row) _ e))
    (and_right (has_begun row) _ e)) in
    let room : has_room_to_begin (view_of s play) ≡ true = ap (λ (n : ℕ). nat_lt n s.forks) (none_under_way s.rows begun) ∙ lt-ltb 0 s.forks f in
    none_next s.rows
    (none_passes s play has_next st idle f none
    (λ n row e. each_next s play n row (next_place row) idle
    (λ p. ap (λ (strategy : Strategy). suits strategy (view_of s play) n (standing row) p) l ∙ or_right_true (has_begun row) (has_room_to_begin (view_of s play)) room) e))
  where
    or_left_true : (a b : Bool) → a ≡ true → (a || b) ≡ true
    or_left_true true b e = refl
    or_left_true false b e = cc

    or_right_true : (a b : Bool) → b ≡ true → (a || b) ≡ true
    or_right_true true b e = refl
    or_right_true false b e = e

pub others_done : (s : State) (play : PlayOf) → is_linear play.strategy ≡ false → s.stopped ≡ false → list_any is_running s.rows ≡ false → 0 < s.forks → has_some (starting (view_of s play)) ≡ false → least_place s.rows ≡ None
others_done s play l st idle f none = by_strategy play.strategy refl
  where
    by_strategy : (strategy : Strategy) → play.strategy ≡ strategy → least_place s.rows ≡ None
    by_strategy Linear e = absurd (let linear : is_linear play.strategy ≡ true = ap is_linear e in never (is_linear play.strategy) l linear)
    by_strategy Free e = free_done s play e st idle f none
    by_strategy HostPinned e = pinned_done s play e st idle f none
