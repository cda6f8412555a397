-- The jobs that are out in a run: each stays what it is until its report is taken, and fewer are out than hosts run wherever one goes out.
use Rattle.std.proofs.Common.{◌≡◌, ◌≢◌, ℕ, zero, suc, ◌+◌, ◌<◌, ◌≤◌, Bool, true, false, ◌&&◌, ◌||◌, cond, not, length, List, [], ◌∷◌, ◌++◌, refl, sym, ◌∙◌, ap, subst, arith}
use Rattle.std.specs.Prelude.{◌==◌, Option, Some, None, option_map, is_some, slice_get, nat_le}
use Rattle.std.specs.List.{list_any}
use Rattle.std.specs.Option.{option_map_or}
use Rattle.std.proofs.lemmas.Bool.{leb-true, ltb-true, eq-eqb}
use Rattle.std.proofs.lemmas.List.Sums.{sum_by-cons}
use Rattle.pb_ids.specs.declared.numbers.HostNo.{HostNo}
use Rattle.pb_ids.specs.declared.numbers.Ticket.{Ticket}
use Rattle.pb_limits.specs.Counts.{running as count_running}
use Rattle.pb_outcome.specs.declared.job.Report.{Report}
use Rattle.pb_plan.specs.Plan.{PlayOf, PlanOf}
use Rattle.pb_host.specs.declared.step_result.TaskEnd.{TaskEnd}
use Rattle.pb_host.specs.declared.host.Running.{Running}
use Rattle.pb_host.specs.Runs.{may_send_item}
use Rattle.pb_host.specs.Host.{first_rows}
use Rattle.pb_state.specs.declared.event.Event.{Event}
use Rattle.pb_state.specs.declared.event.Event.TheVariants.{Open, Start, Send, Report as Reported, Turn, Close, Stop, Forks}
use Rattle.pb_state.specs.Machine.{possible, after, first_state, next_at, open_play, may_send_in}
use Rattle.pb_state.specs.Once.{place_run_by}
use Rattle.pb_state.specs.Run.{legal_from, state_from, state_after_under, IsRun}
use Rattle.pb_state.specs.State.{State}
use Rattle.pb_state.specs.Walks.{AreNumbered}
use Rattle.pb_state.proofs.StepNumbers.{and_left, and_right}
use Rattle.pb_state.proofs.Moves.{IsSound, sound_kept, moves}
use Rattle.pb_state.proofs.Once.{first_sound}
use Rattle.pb_state.proofs.Steps.{pool_stays}
use Rattle.pb_state.proofs.Trails.{state_both}
use Rattle.pb_state.proofs.Walks.{IsOfPlan, step_of, first_of, rows_stay}
use Rattle.pb_laws.specs.History.{Happening, MayRun, Starts, Sends, Reports, happenings, at_place, ends_if, ended_in, given_in}
use Rattle.pb_laws.proofs.BatchTelling.{tells, rows_given}
use Rattle.pb_laws.proofs.JobsInOrder.{put_other, idle_none, apart}
use Rattle.pb_laws.proofs.TaskTelling.{task_there, place_there, sends_is}
use Rattle.pb_laws.proofs.Telling.{Seen, Tells, Opening, Starting, Sending, Reporting, Turning, Closing, Stopping, Forking, AreGiven, one_given, put, places, tasks_of, seen, row_at}
use Rattle.pb_laws.proofs.WithinForks.{idle_next, first_idle}
use Rattle.pb_laws.specs.JobsOut.{has_mail, one_out, one_run, outs, runs}

-- ---- what happens, as far as jobs are concerned
abbrev pub sends_in : List Happening → ℕ
sends_in [] = 0
sends_in (Sends task item attempt ticket ∷ rest) = 1 + sends_in rest
sends_in (now ∷ rest) = sends_in rest

abbrev pub reports_in : List Happening → ℕ
reports_in [] = 0
reports_in (Reports host item ticket ∷ rest) = 1 + reports_in rest
reports_in (now ∷ rest) = reports_in rest

-- how many hosts may run after that
abbrev pub forks_in : ℕ → List Happening → ℕ
forks_in n [] = n
forks_in n (MayRun m ∷ rest) = forks_in m rest
forks_in n (now ∷ rest) = forks_in n rest

-- whether a report is one of this host
abbrev pub tells_of : ℕ → List Happening → Bool
tells_of h [] = false
tells_of h (Reports host item ticket ∷ rest) = (host == h) || tells_of h rest
tells_of h (now ∷ rest) = tells_of h rest

-- what is said of the jobs: so many went out, so many came back, and no report came of any host where none came back
pub record Says (sent came : ℕ) (now : List Happening) : Type 0 where
  pub sends : sends_in now ≡ sent
  pub reports : reports_in now ≡ came
  pub silent : came ≡ 0 → (h : ℕ) → tells_of h now ≡ false

given_says : (now : List Happening) → AreGiven now → Says 0 0 now
given_says [] given = record { sends = refl; reports = refl; silent = λ none h. refl }
given_says (x ∷ xs) (one_given task kind given) =
    let more = given_says xs given in
    record { sends = more.sends; reports = more.reports; silent = more.silent }

given_forks : (now : List Happening) → AreGiven now → (n : ℕ) → forks_in n now ≡ n
given_forks [] given n = refl
given_forks (x ∷ xs) (one_given task kind given) n = given_forks xs given n

start_says : (play h : ℕ) (place : Option ℕ) (found : Option PlayOf) (end : Option TaskEnd) → Says 0 0 (at_place play h place (λ task. Starts task ∷ ends_if found end task))
start_says play h None found end = record { sends = refl; reports = refl; silent = λ none h. refl }
start_says play h (Some p) found None = record { sends = refl; reports = refl; silent = λ none h. refl }
start_says play h (Some p) found (Some end) = record { sends = refl; reports = refl; silent = λ none h. refl }

start_forks : (n play h : ℕ) (place : Option ℕ) (found : Option PlayOf) (end : Option TaskEnd) → forks_in n (at_place play h place (λ task. Starts task ∷ ends_if found end task)) ≡ n
start_forks n play h None found end = refl
start_forks n play h (Some p) found None = refl
start_forks n play h (Some p) found (Some end) = refl

-- an event without mail
pub silent_says : (plan : PlanOf) (s new : State) (e : Event) → has_mail e ≡ false → Says 0 0 (happenings plan s e new)
silent_says plan s new Open m = record { sends = refl; reports = refl; silent = λ none h. refl }
silent_says plan s new (Start h) m = start_says s.play h.0 (next_at s h.0) (open_play plan s) (ended_in new.step_result)
silent_says plan s new (Send h item attempt ticket) m = cc
silent_says plan s new (Reported r) m = cc
silent_says plan s new Turn m = given_says (given_in s.play 0 s.rows new.rows) (rows_given s.play 0 s.rows new.rows)
silent_says plan s new Close m = record { sends = refl; reports = refl; silent = λ none h. refl }
silent_says plan s new Stop m = record { sends = refl; reports = refl; silent = λ none h. refl }
silent_says plan s new (Forks n) m = record { sends = refl; reports = refl; silent = λ none h. refl }

-- a job that goes out
sent_says : (play h item attempt ticket : ℕ) (place : Option ℕ) (p : ℕ) → place ≡ Some p → Says 1 0 (at_place play h place (λ task. Sends task item attempt ticket ∷ []))
sent_says play h item attempt ticket None p e = cc
sent_says play h item attempt ticket (Some q) p e = record { sends = refl; reports = refl; silent = λ none h. refl }

-- the host that sends runs a task, and has no job out
pub sending : (plan : PlanOf) (s : State) (h : HostNo) (item attempt : ℕ) (ticket : Ticket) (found : Option PlayOf) → open_play plan s ≡ found → option_map_or (may_send_in s h.0 item attempt ticket) found false ≡ true
    → (r : Running) × (slice_get (tasks_of s.rows) h.0 ≡ Some (Some r)) × (r.out ≡ None) × (place_run_by s h ≡ Some r.place)
sending plan s h item attempt ticket None o may = cc
sending plan s h item attempt ticket (Some play) o may =
    let at = row_at (may_send_item item attempt) s.rows h.0 (and_right (not s.stopped && (ticket.0 == s.sends)) _ may) in
    let is = sends_is item attempt at.0.running at.2 in
    (is.0, task_there s h.0 at.0 is.0 at.1 is.1, is.2, place_there s h at.0 is.0 at.1 is.1)

pub send_says : (plan : PlanOf) (s new : State) (h : HostNo) (item attempt : ℕ) (ticket : Ticket) → possible plan s (Send h item attempt ticket) ≡ true → Says 1 0 (happenings plan s (Send h item attempt ticket) new)
send_says plan s new h item attempt ticket may =
    let at = sending plan s h item attempt ticket (open_play plan s) refl may in
    sent_says s.play h.0 item attempt ticket.0 (place_run_by s h) at.0.place at.3

-- and one whose report comes
end_says : (h item ticket play k : ℕ) (place : Option ℕ) (found : Option PlayOf) (end : Option TaskEnd) → Says 0 1 (Reports h item ticket ∷ at_place play k place (λ task. ends_if found end task))
end_says h item ticket play k None found end = record { sends = refl; reports = refl; silent = λ none h. absurd (omega (arith, none)) }
end_says h item ticket play k (Some p) found None = record { sends = refl; reports = refl; silent = λ none h. absurd (omega (arith, none)) }
end_says h item ticket play k (Some p) found (Some end) = record { sends = refl; reports = refl; silent = λ none h. absurd (omega (arith, none)) }

pub report_says : (plan : PlanOf) (s new : State) (r : Report) → Says 0 1 (happenings plan s (Reported r) new)
report_says plan s new r = end_says r.host.0 r.item r.ticket.0 s.play r.host.0 (place_run_by s r.host) (open_play plan s) (ended_in new.step_result)

or_false : (a b : Bool) → a ≡ false → b ≡ false → (a || b) ≡ false
or_false a b e f = rw (e, f) refl

end_tells : (h host item ticket play k : ℕ) (place : Option ℕ) (found : Option PlayOf) (end : Option TaskEnd) → (host == h) ≡ false → tells_of h (Reports host item ticket ∷ at_place play k place (λ task. ends_if found end task)) ≡ false
end_tells h host item ticket play k None found end e = or_false (host == h) false e refl
end_tells h host item ticket play k (Some p) found None e = or_false (host == h) false e refl
end_tells h host item ticket play k (Some p) found (Some end) e = or_false (host == h) false e refl

pub report_tells : (plan : PlanOf) (s new : State) (r : Report) (h : ℕ) → h ≢ r.host.0 → tells_of h (happenings plan s (Reported r) new) ≡ false
report_tells plan s new r h other =
    end_tells h r.host.0 r.item r.ticket.0 s.play r.host.0 (place_run_by s r.host) (open_play plan s) (ended_in new.step_result) (apart r.host.0 h (λ same. other (sym same)))

-- ---- what is seen
-- nobody runs while no batch is open
abbrev pub IdleShut : Seen → Type 0
IdleShut v = v.is_open ≡ false → list_any is_some v.tasks ≡ false

some_out : (r : Running) (t : ℕ) → option_map (λ (u : Ticket). u.0) r.out ≡ Some t → ◌≡◌ {A = ℕ} (one_out (Some r)) 1
some_out r t e = by_out r.out e
  where
    by_out : (out : Option Ticket) → option_map (λ (u : Ticket). u.0) out ≡ Some t → ◌≡◌ {A = ℕ} (cond (is_some out) 1 0) 1
    by_out None f = cc
    by_out (Some u) f = refl

none_out : (r : Running) → r.out ≡ None → one_out (Some r) ≡ 0
none_out r e = ap (λ (out : Option Ticket). cond (is_some out) 1 0) e

outs_put : (ts : List (Option Running)) (h : ℕ) (old new : Option Running) → slice_get ts h ≡ Some old → outs (put ts h new) + one_out old ≡ outs ts + one_out new
outs_put [] h old new e = cc
outs_put (t ∷ ts) zero old new e = let same : t ≡ old = cc in rw (← same) (omega arith)
outs_put (t ∷ ts) (suc h) old new e = omega (arith, outs_put ts h old new e)

outs_idle : (ts : List (Option Running)) → list_any is_some ts ≡ false → outs ts ≡ 0
outs_idle [] e = refl
outs_idle (None ∷ ts) e = omega (arith, outs_idle ts e)
outs_idle (Some r ∷ ts) e = absurd (let shown : true ≡ false = e in cc)

outs_next : (plan : PlanOf) (v new : Seen) (now : List Happening) → Tells plan v now new → IdleShut v → outs new.tasks + reports_in now ≡ outs v.tasks + sends_in now
outs_next plan v new now (Opening n more tasks inside waiting is) idle = omega (arith, outs_idle tasks is.idle, outs_idle v.tasks (idle is.shut))
outs_next plan v new now (Starting true host place items end notified is so) idle = omega (arith, outs_put v.tasks host None None is.idle)
outs_next plan v new now (Starting false host place items end notified is so) idle = omega (arith, outs_put v.tasks host None (Some (record { place = place; items = items; out = None })) is.idle)
outs_next plan v new now (Sending host item attempt ticket r is) idle = omega (arith, outs_put v.tasks host (Some r) (Some (record r { out = Some ticket })) is.there, none_out r is.free)
outs_next plan v new now (Reporting true host item ticket r items end notified is so) idle = omega (arith, outs_put v.tasks host (Some r) None is.there, some_out r ticket.0 is.out)
outs_next plan v new now (Reporting false host item ticket r items end notified is so) idle =
    omega (arith, outs_put v.tasks host (Some r) (Some (record { place = r.place; items = items; out = None })) is.there, some_out r ticket.0 is.out)
outs_next plan v new now (Turning more happens opened given is) idle = let says = given_says happens given in omega (arith, says.sends, says.reports)
outs_next plan v new now (Closing tasks inside waiting is) idle = omega (arith, outs_idle tasks is.idle, outs_idle v.tasks is.before)
outs_next plan v new now Stopping idle = refl
outs_next plan v new now (Forking n) idle = refl

sends_next : (plan : PlanOf) (v new : Seen) (now : List Happening) → Tells plan v now new → new.sends ≡ v.sends + sends_in now
sends_next plan v new now (Opening n more tasks inside waiting is) = omega arith
sends_next plan v new now (Starting true host place items end notified is so) = omega arith
sends_next plan v new now (Starting false host place items end notified is so) = omega arith
sends_next plan v new now (Sending host item attempt ticket r is) = omega arith
sends_next plan v new now (Reporting true host item ticket r items end notified is so) = omega arith
sends_next plan v new now (Reporting false host item ticket r items end notified is so) = omega arith
sends_next plan v new now (Turning more happens opened given is) = let says = given_says happens given in omega (arith, says.sends)
sends_next plan v new now (Closing tasks inside waiting is) = omega arith
sends_next plan v new now Stopping = omega arith
sends_next plan v new now (Forking n) = omega arith

forks_next : (plan : PlanOf) (v new : Seen) (now : List Happening) → Tells plan v now new → new.forks ≡ forks_in v.forks now
forks_next plan v new now (Opening n more tasks inside waiting is) = refl
forks_next plan v new now (Starting true host place items end notified is so) = refl
forks_next plan v new now (Starting false host place items end notified is so) = refl
forks_next plan v new now (Sending host item attempt ticket r is) = refl
forks_next plan v new now (Reporting true host item ticket r items end notified is so) = refl
forks_next plan v new now (Reporting false host item ticket r items end notified is so) = refl
forks_next plan v new now (Turning more happens opened given is) = sym (given_forks happens given v.forks)
forks_next plan v new now (Closing tasks inside waiting is) = refl
forks_next plan v new now Stopping = refl
forks_next plan v new now (Forking n) = refl

runs_are : (ts : List (Option Running)) → runs ts ≡ count_running (places ts)
runs_are [] = refl
runs_are (None ∷ ts) = omega (arith, runs_are ts, sum_by-cons (λ (y : Option ℕ). cond (is_some y) 1 0) None (places ts))
runs_are (Some r ∷ ts) = omega (arith, runs_are ts, sum_by-cons (λ (y : Option ℕ). cond (is_some y) 1 0) (Some r.place) (places ts))

runs_put : (ts : List (Option Running)) (h : ℕ) (old new : Option Running) → slice_get ts h ≡ Some old → runs (put ts h new) + one_run old ≡ runs ts + one_run new
runs_put [] h old new e = cc
runs_put (t ∷ ts) zero old new e = let same : t ≡ old = cc in rw (← same) (omega arith)
runs_put (t ∷ ts) (suc h) old new e = omega (arith, runs_put ts h old new e)

runs_idle : (ts : List (Option Running)) → list_any is_some ts ≡ false → runs ts ≡ 0
runs_idle [] e = refl
runs_idle (None ∷ ts) e = omega (arith, runs_idle ts e)
runs_idle (Some r ∷ ts) e = absurd (let shown : true ≡ false = e in cc)

one_most : (running : Option Running) → one_run running ≤ 1
one_most None = omega arith
one_most (Some r) = omega arith

runs_next : (plan : PlanOf) (v new : Seen) (now : List Happening) (pool : ℕ) → Tells plan v now new → v.forks ≤ pool → runs v.tasks ≤ pool → runs new.tasks ≤ pool
runs_next plan v new now pool (Opening n more tasks inside waiting is) f r = omega (arith, runs_idle tasks is.idle)
runs_next plan v new now pool (Starting true host place items end notified is so) f r = omega (arith, r, runs_put v.tasks host None None is.idle)
runs_next plan v new now pool (Starting false host place items end notified is so) f r =
    let room = ltb-true (count_running (places v.tasks)) v.forks is.room in
    omega (arith, f, room, runs_are v.tasks, runs_put v.tasks host None (Some (record { place = place; items = items; out = None })) is.idle)
runs_next plan v new now pool (Sending host item attempt ticket q is) f r = omega (arith, r, runs_put v.tasks host (Some q) (Some (record q { out = Some ticket })) is.there)
runs_next plan v new now pool (Reporting true host item ticket q items end notified is so) f r = omega (arith, r, runs_put v.tasks host (Some q) None is.there)
runs_next plan v new now pool (Reporting false host item ticket q items end notified is so) f r =
    omega (arith, r, runs_put v.tasks host (Some q) (Some (record { place = q.place; items = items; out = None })) is.there)
runs_next plan v new now pool (Turning more happens opened given is) f r = r
runs_next plan v new now pool (Closing tasks inside waiting is) f r = omega (arith, runs_idle tasks is.idle)
runs_next plan v new now pool Stopping f r = r
runs_next plan v new now pool (Forking n) f r = r

-- fewer jobs are out than hosts run, where one runs that has none out
out_one : (running : Option Running) → one_out running ≤ one_run running
out_one None = omega arith
out_one (Some r) = by_out (is_some r.out)
  where
    by_out : (b : Bool) → cond b 1 0 ≤ 1
    by_out true = omega arith
    by_out false = omega arith

pub outs_most : (ts : List (Option Running)) → outs ts ≤ runs ts
outs_most [] = omega arith
outs_most (t ∷ ts) = omega (arith, out_one t, outs_most ts)

outs_less : (ts : List (Option Running)) (h : ℕ) (r : Running) → slice_get ts h ≡ Some (Some r) → r.out ≡ None → outs ts < runs ts
outs_less [] h r e out = cc
outs_less (t ∷ ts) zero r e out =
    let same : t ≡ Some r = cc in
    let none : one_out t ≡ 0 = ap one_out same ∙ none_out r out in
    let one : ◌≡◌ {A = ℕ} (cond (is_some t) 1 0) 1 = ap (λ (x : Option Running). cond (is_some x) 1 0) same in
    omega (arith, none, one, outs_most ts)
outs_less (t ∷ ts) (suc h) r e out = omega (arith, out_one t, outs_less ts h r e out)

-- a task whose job is out stays as it is until its report comes
or_left : (a b : Bool) → (a || b) ≡ false → a ≡ false
or_left true b e = cc
or_left false b e = refl

none_there : (r : Running) → ◌≡◌ {A = Option (Option Running)} (Some None) (Some (Some r)) → ⊥
none_there r e = let same : ◌≡◌ {A = Option Running} None (Some r) = cc in cc

some_out_of : (q r : Running) (t : Ticket) → ◌≡◌ {A = Option (Option Running)} (Some (Some q)) (Some (Some r)) → q.out ≡ None → r.out ≡ Some t → ⊥
some_out_of q r t e none some = let same : q ≡ r = cc in let wrong : ◌≡◌ {A = Option Ticket} None (Some t) = sym none ∙ ap (λ (x : Running). x.out) same ∙ some in cc

pub stays_next : (plan : PlanOf) (v new : Seen) (now : List Happening) (h : ℕ) (r : Running) (t : Ticket) → Tells plan v now new → v.is_open ≡ true → slice_get v.tasks h ≡ Some (Some r) → r.out ≡ Some t
    → tells_of h now ≡ false → (slice_get new.tasks h ≡ Some (Some r)) × (new.is_open ≡ true) × (new.play ≡ v.play)
stays_next plan v new now h r t (Opening n more tasks inside waiting is) o there out none = let wrong : true ≡ false = sym o ∙ is.shut in cc
stays_next plan v new now h r t (Starting over host place items end notified is so) o there out none = (
  put_other v.tasks host h _ (Some r) (λ same. none_there r (sym is.idle ∙ ap (slice_get v.tasks) (sym same) ∙ there)) there,
  o,
  refl,
)
stays_next plan v new now h r t (Sending host item attempt ticket q is) o there out none = (
  put_other v.tasks host h _ (Some r) (λ same. some_out_of q r t (sym is.there ∙ ap (slice_get v.tasks) (sym same) ∙ there) is.free out) there,
  o,
  refl,
)
stays_next plan v new now h r t (Reporting over host item ticket q items end notified is so) o there out none = (
  put_other v.tasks host h _ (Some r) (λ same. let wrong : true ≡ false = sym (eq-eqb host h (sym same)) ∙ or_left (host == h) _ none in cc) there,
  o,
  refl,
)
stays_next plan v new now h r t (Turning more happens opened given is) o there out none = (there, o, refl)
stays_next plan v new now h r t (Closing tasks inside waiting is) o there out none = absurd (idle_none v.tasks h r is.before there)
stays_next plan v new now h r t Stopping o there out none = (there, o, refl)
stays_next plan v new now h r t (Forking n) o there out none = (there, o, refl)

-- ---- whole runs
pub record InRun (plan : PlanOf) (pool : ℕ) (s : State) : Type 0 where
  pub numbered : AreNumbered 0 s.rows
  pub trees : IsOfPlan plan s
  pub sound : IsSound s
  pub idle : IdleShut (seen s)
  pub sized : s.pool ≡ pool
  pub room : s.forks ≤ pool
  pub most : runs (tasks_of s.rows) ≤ pool

forks_within : (plan : PlanOf) (s : State) (pool : ℕ) (e : Event) → possible plan s e ≡ true → s.pool ≡ pool → s.forks ≤ pool → forks_in s.forks (happenings plan s e (after plan s e)) ≤ pool
forks_within plan s pool Open may same f = f
forks_within plan s pool (Start h) may same f =
    let new = (after plan s (Start h)).step_result in
    omega (arith, f, start_forks s.forks s.play h.0 (next_at s h.0) (open_play plan s) (ended_in new))
forks_within plan s pool (Send h item attempt ticket) may same f =
    let at = sending plan s h item attempt ticket (open_play plan s) refl may in
    subst (λ (place : Option ℕ). forks_in s.forks (at_place s.play h.0 place (λ task. Sends task item attempt ticket.0 ∷ [])) ≤ pool) (sym at.3) f
forks_within plan s pool (Reported r) may same f = by_end (place_run_by s r.host) (ended_in (after plan s (Reported r)).step_result)
  where
    by_end : (place : Option ℕ) (end : Option TaskEnd) → forks_in s.forks (Reports r.host.0 r.item r.ticket.0 ∷ at_place s.play r.host.0 place (λ task. ends_if (open_play plan s) end task)) ≤ pool
    by_end None end = f
    by_end (Some p) None = f
    by_end (Some p) (Some end) = f
forks_within plan s pool Turn may same f =
    let new = (after plan s Turn).rows in
    omega (arith, f, given_forks (given_in s.play 0 s.rows new) (rows_given s.play 0 s.rows new) s.forks)
forks_within plan s pool Close may same f = f
forks_within plan s pool Stop may same f = f
forks_within plan s pool (Forks n) may same f = omega (arith, same, leb-true n s.pool (and_right (nat_le 1 n) _ may))

pub step_tells : (plan : PlanOf) (pool : ℕ) (s : State) (e : Event) → possible plan s e ≡ true → InRun plan pool s → Tells plan (seen s) (happenings plan s e (after plan s e)) (seen (after plan s e))
step_tells plan pool s e may run = tells plan s e may run.numbered run.trees run.sound

in_next : (plan : PlanOf) (pool : ℕ) (s : State) (e : Event) → possible plan s e ≡ true → AreNumbered 0 (after plan s e).rows → InRun plan pool s → InRun plan pool (after plan s e)
in_next plan pool s e may numbered run =
    let step = step_tells plan pool s e may run in
    record {
      numbered = numbered;
      trees = step_of plan s e run.trees;
      sound = sound_kept s (after plan s e) (moves plan s e may) run.sound;
      idle = idle_next plan (seen s) (seen (after plan s e)) (happenings plan s e (after plan s e)) step run.idle;
      sized = pool_stays plan s e ∙ run.sized;
      room = subst (λ (n : ℕ). n ≤ pool) (sym (forks_next plan (seen s) (seen (after plan s e)) (happenings plan s e (after plan s e)) step)) (forks_within plan s pool e may run.sized run.room);
      most = runs_next plan (seen s) (seen (after plan s e)) (happenings plan s e (after plan s e)) pool step run.room run.most;
    }

in_from : (plan : PlanOf) (forks pool : ℕ) (before : List Event) (s : State) (es : List Event) → state_after_under plan forks pool before ≡ s → legal_from plan s es ≡ true → InRun plan pool s
    → InRun plan pool (state_from plan s es)
in_from plan forks pool before s [] led legal run = run
in_from plan forks pool before s (e ∷ es) led legal run =
    let next : state_after_under plan forks pool (before ++ e ∷ []) ≡ after plan s e = state_both plan (first_state plan forks pool) before (e ∷ []) ∙ ap (λ (t : State). after plan t e) led in
    let numbered = subst (λ (t : State). AreNumbered 0 t.rows) next (rows_stay plan forks pool (before ++ e ∷ [])) in
    in_from plan forks pool (before ++ e ∷ []) (after plan s e) es next (and_right (possible plan s e) _ legal) (in_next plan pool s e (and_left (possible plan s e) _ legal) numbered run)

first_runs : (h n : ℕ) → runs (tasks_of (first_rows h n)) ≡ 0
first_runs h zero = refl
first_runs h (suc n) = omega (arith, first_runs (h + 1) n)

pub first_outs : (h n : ℕ) → outs (tasks_of (first_rows h n)) ≡ 0
first_outs h zero = refl
first_outs h (suc n) = omega (arith, first_outs (h + 1) n)

pub in_run : (plan : PlanOf) (pool : ℕ) (trail : List Event) (s : State) → plan.forks ≤ pool → IsRun plan pool trail s → InRun plan pool s
in_run plan pool trail s f run =
    subst (InRun plan pool) run.ends
    (in_from plan plan.forks pool [] (first_state plan plan.forks pool) trail refl run.legal
    (record {
      numbered = rows_stay plan plan.forks pool [];
      trees = first_of plan plan.forks pool;
      sound = first_sound plan plan.forks pool;
      idle = λ shut. first_idle 0 (length plan.inventory.hosts);
      sized = refl;
      room = f;
      most = omega (arith, first_runs 0 (length plan.inventory.hosts));
    }))

-- ---- what a step does to the jobs that are out
pub outs_silent : (plan : PlanOf) (pool : ℕ) (s : State) (e : Event) → possible plan s e ≡ true → InRun plan pool s → has_mail e ≡ false
    → (outs (tasks_of (after plan s e).rows) ≡ outs (tasks_of s.rows)) × ((after plan s e).sends ≡ s.sends)
outs_silent plan pool s e may run none =
    let step = step_tells plan pool s e may run in
    let says = silent_says plan s (after plan s e) e none in (
      omega (arith, outs_next plan (seen s) (seen (after plan s e)) (happenings plan s e (after plan s e)) step run.idle, says.sends, says.reports),
      omega (arith, sends_next plan (seen s) (seen (after plan s e)) (happenings plan s e (after plan s e)) step, says.sends),
    )

pub outs_sent : (plan : PlanOf) (pool : ℕ) (s : State) (h : HostNo) (item attempt : ℕ) (ticket : Ticket) → possible plan s (Send h item attempt ticket) ≡ true → InRun plan pool s
    → (outs (tasks_of (after plan s (Send h item attempt ticket)).rows) ≡ outs (tasks_of s.rows) + 1) × ((after plan s (Send h item attempt ticket)).sends ≡ s.sends + 1)
outs_sent plan pool s h item attempt ticket may run =
    let e = Send h item attempt ticket in
    let step = step_tells plan pool s e may run in
    let says = send_says plan s (after plan s e) h item attempt ticket may in (
      omega (arith, outs_next plan (seen s) (seen (after plan s e)) (happenings plan s e (after plan s e)) step run.idle, says.sends, says.reports),
      omega (arith, sends_next plan (seen s) (seen (after plan s e)) (happenings plan s e (after plan s e)) step, says.sends),
    )

pub outs_reported : (plan : PlanOf) (pool : ℕ) (s : State) (r : Report) → possible plan s (Reported r) ≡ true → InRun plan pool s
    → (outs (tasks_of (after plan s (Reported r)).rows) + 1 ≡ outs (tasks_of s.rows)) × ((after plan s (Reported r)).sends ≡ s.sends)
outs_reported plan pool s r may run =
    let e = Reported r in
    let step = step_tells plan pool s e may run in
    let says = report_says plan s (after plan s e) r in (
      omega (arith, outs_next plan (seen s) (seen (after plan s e)) (happenings plan s e (after plan s e)) step run.idle, says.sends, says.reports),
      omega (arith, sends_next plan (seen s) (seen (after plan s e)) (happenings plan s e (after plan s e)) step, says.sends),
    )

-- where a job goes out there is room for it
pub room_to_send : (plan : PlanOf) (pool : ℕ) (s : State) (h : HostNo) (item attempt : ℕ) (ticket : Ticket) → possible plan s (Send h item attempt ticket) ≡ true → InRun plan pool s → outs (tasks_of s.rows) < pool
room_to_send plan pool s h item attempt ticket may run =
    let at = sending plan s h item attempt ticket (open_play plan s) refl may in
    omega (arith, outs_less (tasks_of s.rows) h.0 at.0 at.1 at.2, run.most)
