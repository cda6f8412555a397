-- The places at which a host starts in a play rise: what happens starts what the machine's starts are, and those rise.
use Rattle.std.proofs.Common.{◌≡◌, ℕ, Bool, true, false, ◌&&◌, ◌||◌, not, List, [], ◌∷◌, ◌++◌, refl, ap}
use Rattle.std.specs.Prelude.{◌==◌, nat_lt, Option, Some, None}
use Rattle.std.proofs.lemmas.Bool.{eqb-true, lt-ltb}
use Rattle.pb_ids.specs.declared.numbers.HostNo.{HostNo}
use Rattle.pb_plan.specs.Plan.{PlayOf, PlanOf}
use Rattle.pb_host.specs.declared.step_result.TaskEnd.{TaskEnd}
use Rattle.pb_state.specs.declared.event.Event.{Event}
use Rattle.pb_state.specs.declared.event.Event.TheVariants.{Open, Start, Send, Report as Reported, Turn, Close, Stop, Forks}
use Rattle.pb_state.specs.Machine.{possible, after, first_state, open_play, next_at}
use Rattle.pb_state.specs.Once.{StartOf, starts_from, place_run_by}
use Rattle.pb_state.specs.Rising.{IsBeforeAll, DoRise}
use Rattle.pb_state.specs.Run.{legal_from}
use Rattle.pb_state.specs.State.{State}
use Rattle.pb_state.proofs.StepNumbers.{and_left, and_right}
use Rattle.pb_state.proofs.Once.{start_place}
use Rattle.pb_state.proofs.Rising.{starts_rise}
use Rattle.pb_state.proofs.Stands.{both}
use Rattle.pb_laws.specs.History.{HostTask, Happening, MayRun, Starts, Sends, Reports, at_place, ended_in, ends_if, happenings, history_from}
use Rattle.pb_laws.specs.Laws.{Always, holds_from, so_far, rises, places_rise}
use Rattle.pb_laws.proofs.Telling.{AreGiven, one_given}
use Rattle.pb_laws.proofs.BatchTelling.{rows_given}
use Rattle.pb_laws.proofs.Holding.{holds_both}

-- ---- starts and later ones
start_of : HostTask → StartOf
start_of task = record { host = record { 0 = task.host }; play = task.play; place = Some task.place }

AllBefore : List Happening → List StartOf → Type 0
AllBefore [] sizes_left = Unit {0}
AllBefore (Starts task ∷ past) sizes_left = IsBeforeAll (start_of task) sizes_left × AllBefore past sizes_left
AllBefore (now ∷ past) sizes_left = AllBefore past sizes_left

rises_or : (a b c : Bool) → (a ≡ true → b ≡ true → c ≡ true) → (not (a && b) || c) ≡ true
rises_or true true c e = e refl refl
rises_or true false c e = refl
rises_or false b c e = refl

rises_from : (task : HostTask) (past : List Happening) (rest : List StartOf) → AllBefore past (start_of task ∷ rest) → rises task past ≡ true
unfolding AllBefore start_of
rises_from task [] rest all = refl
rises_from task (Starts other ∷ past) rest all =
    both (not ((other.host == task.host) && (other.play == task.play)) || nat_lt other.place task.place) (rises task past)
    (rises_or (other.host == task.host) (other.play == task.play) (nat_lt other.place task.place)
    (λ host play. lt-ltb other.place task.place (all.0.0 (ap (λ (n : ℕ). record { 0 = n }) (eqb-true other.host task.host host)) (eqb-true other.play task.play play))))
    (rises_from task past rest all.1)
rises_from task (now ∷ past) rest all = rises_from task past rest all

-- the first of the later ones has come
passed : (x : StartOf) (past : List Happening) (rest : List StartOf) → AllBefore past (x ∷ rest) → AllBefore past rest
unfolding AllBefore
passed x [] rest all = tt
passed x (Starts other ∷ past) rest all = (all.0.1, passed x past rest all.1)
passed x (now ∷ past) rest all = passed x past rest all

-- ---- what starts nothing
starts_none : List Happening → Bool
starts_none [] = true
starts_none (Starts task ∷ rest) = false
starts_none (now ∷ rest) = starts_none rest

none_holds : (plan : PlanOf) (past happens : List Happening) → starts_none happens ≡ true → holds_from (places_rise plan) past happens ≡ true
unfolding starts_none
none_holds plan past [] none = refl
none_holds plan past (Starts task ∷ rest) none = cc
none_holds plan past (now ∷ rest) none = none_holds plan (now ∷ past) rest none

none_before : (past happens : List Happening) (sizes_left : List StartOf) → starts_none happens ≡ true → AllBefore past sizes_left → AllBefore (so_far past happens) sizes_left
unfolding starts_none AllBefore
none_before past [] sizes_left none all = all
none_before past (Starts task ∷ rest) sizes_left none all = absurd (let started : false ≡ true = none in cc)
none_before past (now ∷ rest) sizes_left none all = none_before (now ∷ past) rest sizes_left none all

given_none : (happens : List Happening) → AreGiven happens → starts_none happens ≡ true
unfolding starts_none
given_none [] given = refl
given_none (x ∷ xs) (one_given task kind given) = given_none xs given

ends_none : (play : Option PlayOf) (end : Option TaskEnd) (task : HostTask) → starts_none (ends_if play end task) ≡ true
unfolding starts_none
ends_none play None task = refl
ends_none play (Some end) task = refl

report_none : (host item ticket k : ℕ) (play : Option PlayOf) (end : Option TaskEnd) (place : Option ℕ) → starts_none (Reports host item ticket ∷ at_place k host place (λ task. ends_if play end task)) ≡ true
unfolding starts_none
report_none host item ticket k play end None = refl
report_none host item ticket k play end (Some p) = ends_none play end (record { play = k; host = host; place = p })

send_none : (k host item attempt ticket : ℕ) (place : Option ℕ) → starts_none (at_place k host place (λ task. Sends task item attempt ticket ∷ [])) ≡ true
unfolding starts_none
send_none k host item attempt ticket None = refl
send_none k host item attempt ticket (Some p) = refl

-- ---- runs
module _ (plan : PlanOf) where
  OnFrom : State → List Event → Type 0
  OnFrom s es = (past : List Happening) → legal_from plan s es ≡ true → DoRise (starts_from plan s es) → AllBefore past (starts_from plan s es) → holds_from (places_rise plan) past (history_from plan s es) ≡ true

  -- an event that starts nothing
  on_free : (s : State) (e : Event) (es : List Event) (past happens : List Happening) → starts_none happens ≡ true → OnFrom (after plan s e) es → legal_from plan (after plan s e) es ≡ true
      → DoRise (starts_from plan (after plan s e) es) → AllBefore past (starts_from plan (after plan s e) es) → holds_from (places_rise plan) past (happens ++ history_from plan (after plan s e) es) ≡ true
  unfolding OnFrom
  on_free s e es past happens none on l rise all =
      holds_both (places_rise plan) past happens (history_from plan (after plan s e) es) (none_holds plan past happens none)
      (on (so_far past happens) l rise (none_before past happens (starts_from plan (after plan s e) es) none all))

  on_start : (s : State) (h : HostNo) (es : List Event) (past : List Happening) (place : Option ℕ) (p : ℕ) → place ≡ Some p → OnFrom (after plan s (Start h)) es → legal_from plan (after plan s (Start h)) es ≡ true
      → DoRise (record { host = h; play = s.play; place = place } ∷ starts_from plan (after plan s (Start h)) es) → AllBefore past (record { host = h; play = s.play; place = place } ∷ starts_from plan (after plan s (Start h)) es)
      → holds_from (places_rise plan) past
      (at_place s.play h.0 place (λ task. Starts task ∷ ends_if (open_play plan s) (ended_in (after plan s (Start h)).step_result) task) ++ history_from plan (after plan s (Start h)) es) ≡ true
  unfolding OnFrom AllBefore start_of
  on_start s h es past None p is on l rise all = cc
  on_start s h es past (Some q) p is on l rise all =
      both (rises (record { play = s.play; host = h.0; place = q }) past) _ (rises_from (record { play = s.play; host = h.0; place = q }) past (starts_from plan (after plan s (Start h)) es) all)
      (on_free s (Start h) es (Starts (record { play = s.play; host = h.0; place = q }) ∷ past) (ends_if (open_play plan s) (ended_in (after plan s (Start h)).step_result) (record { play = s.play; host = h.0; place = q }))
      (ends_none (open_play plan s) (ended_in (after plan s (Start h)).step_result) (record { play = s.play; host = h.0; place = q })) on l rise.1
      (rise.0, passed (record { host = h; play = s.play; place = Some q }) past (starts_from plan (after plan s (Start h)) es) all))

  on_from : (s : State) (es : List Event) → OnFrom s es
  unfolding OnFrom starts_none
  on_from s [] past l rise all = refl
  on_from s (Start h ∷ es) past l rise all =
      let may = and_left (possible plan s (Start h)) _ l in
      let at = start_place plan s h.0 (open_play plan s) may in
      on_start s h es past (next_at s h.0) at.0 at.1 (on_from (after plan s (Start h)) es) (and_right (possible plan s (Start h)) _ l) rise all
  on_from s (Open ∷ es) past l rise all = on_free s Open es past (happenings plan s Open (after plan s Open)) refl (on_from (after plan s Open) es) (and_right (possible plan s Open) _ l) rise all
  on_from s (Send h item attempt ticket ∷ es) past l rise all =
      on_free s (Send h item attempt ticket) es past (happenings plan s (Send h item attempt ticket) (after plan s (Send h item attempt ticket))) (send_none s.play h.0 item attempt ticket.0 (place_run_by s h)) (on_from (after plan s (Send h item attempt ticket)) es)
      (and_right (possible plan s (Send h item attempt ticket)) _ l) rise all
  on_from s (Reported r ∷ es) past l rise all =
      on_free s (Reported r) es past (happenings plan s (Reported r) (after plan s (Reported r)))
      (report_none r.host.0 r.item r.ticket.0 s.play (open_play plan s) (ended_in (after plan s (Reported r)).step_result) (place_run_by s r.host)) (on_from (after plan s (Reported r)) es)
      (and_right (possible plan s (Reported r)) _ l) rise all
  on_from s (Turn ∷ es) past l rise all =
      on_free s Turn es past (happenings plan s Turn (after plan s Turn)) (given_none (happenings plan s Turn (after plan s Turn)) (rows_given s.play 0 s.rows (after plan s Turn).rows)) (on_from (after plan s Turn) es)
      (and_right (possible plan s Turn) _ l) rise all
  on_from s (Close ∷ es) past l rise all = on_free s Close es past (happenings plan s Close (after plan s Close)) refl (on_from (after plan s Close) es) (and_right (possible plan s Close) _ l) rise all
  on_from s (Stop ∷ es) past l rise all = on_free s Stop es past (happenings plan s Stop (after plan s Stop)) refl (on_from (after plan s Stop) es) (and_right (possible plan s Stop) _ l) rise all
  on_from s (Forks n ∷ es) past l rise all = on_free s (Forks n) es past (happenings plan s (Forks n) (after plan s (Forks n))) refl (on_from (after plan s (Forks n)) es) (and_right (possible plan s (Forks n)) _ l) rise all

nothing_before : (forks : ℕ) (sizes_left : List StartOf) → AllBefore (MayRun forks ∷ []) sizes_left
unfolding AllBefore
nothing_before forks sizes_left = tt

pub places_always_rise : Always places_rise
unfolding OnFrom
places_always_rise plan forks pool trail l =
    on_from plan (first_state plan forks pool) trail (MayRun forks ∷ []) l (starts_rise plan forks pool trail l) (nothing_before forks (starts_from plan (first_state plan forks pool) trail))
