-- A pool's main seat beside the engine whose jobs it has: before a run, as a job goes out and as a report comes.
use Rattle.std.proofs.Common.{◌≡◌, ℕ, zero, suc, ◌+◌, ◌*◌, ◌<◌, ◌≤◌, Bool, true, false, ◌||◌, cond, List, [], ◌∷◌, ◌++◌, map, length, get_or, set, refl, sym, ◌∙◌, ap, subst, arith, length-set}
use Rattle.std.specs.Prelude.{◌==◌, Option, Some, None, is_some, count_by}
use Rattle.std.specs.List.{list_all, list_any}
use Rattle.std.specs.Option.{option_map_or}
use Rattle.std.proofs.lemmas.Bool.{eqb-true, lt-ltb}
use Rattle.std.proofs.lemmas.List.{map-append}
use Rattle.std.proofs.lemmas.List.Sums.{sum_by-cons}
use Rattle.pb_ids.specs.declared.numbers.Ticket.{Ticket}
use Rattle.pb_outcome.specs.declared.job.Job.{Job}
use Rattle.pb_outcome.specs.declared.job.Report.{Report}
use Rattle.pb_outcome.specs.declared.outcome.Form.{Form}
use Rattle.pb_forks.specs.declared.seats.Pool.{Pool}
use Rattle.pb_forks.specs.declared.seats.MainSeat.{MainSeat}
use Rattle.pb_forks.specs.declared.views.Entry.{Entry}
use Rattle.pb_forks.specs.declared.views.Entry.TheVariants.{Offered, Collected}
use Rattle.pb_forks.specs.declared.views.MainView.{MainView}
use Rattle.pb_forks.specs.Logs.{IsAbove}
use Rattle.pb_forks.specs.Seats.{main_view, forks_of, IsMainOf, IsSameMain}
use Rattle.pb_forks.specs.Views.{CollectedLast, offered_to, idle_forks, idle_words, jobs_out, is_out}
use Rattle.pb_runner.specs.Served.{report_of}
use Rattle.pb_plan.specs.Plan.{PlanOf}
use Rattle.pb_host.specs.declared.host.Running.{Running}
use Rattle.pb_host.specs.Host.{HostOf}
use Rattle.pb_host.specs.Runs.{is_out as has_job_out}
use Rattle.pb_state.specs.declared.event.Event.TheVariants.{Send, Report as Reported}
use Rattle.pb_state.specs.Jobs.{job_of}
use Rattle.pb_state.specs.Machine.{after, first_state, open_play}
use Rattle.pb_state.proofs.StepNumbers.{and_left, and_right}
use Rattle.pb_state.proofs.Stands.{both}
use Rattle.pb_engine.specs.EngineOf.{EngineOf, Takes}
use Rattle.pb_engine.specs.Refusals.{refusal_of}
use Rattle.pb_engine.proofs.Laws.{tasks_of, job_host, sent_out, open_of_job, outs_sent, room_to_send, sending, first_outs}
use Rattle.pb_driver.specs.Crews.{FitsSince, HasSent, HasPosted, StaysWithin}
use Rattle.pb_driver.specs.Driven.{IsWorkersAnswer}
use Rattle.pb_driver.specs.FitsPool.{FitsView, FitsPool}
use Rattle.pb_driver.specs.Mails.{Goes, Comes, AreWithin, is_fork_below, letter_at, Came}
use Rattle.pb_engine.specs.Laws.{one_out, outs}
use Rattle.pb_driver.proofs.Viewing.{view_now, sends_at, view_sent, job_came, workers_answer, report_waits, view_came, run_in}

-- ---- said of the seat
module _ {A : Type 0} where
  pub seat_wide : (pool : Pool A) (main : MainSeat) → IsMainOf pool main → length (main_view main).seen ≡ forks_of pool
  seat_wide pool main of = ap length main.remembers ∙ main.sees_all ∙ (λ i. (of i).words) ∙ pool.sized.0

  pub seat_below : (pool : Pool A) (main : MainSeat) (f : ℕ) → IsMainOf pool main → f < forks_of pool → f < length (main_view main).seen
  seat_below pool main f of below = subst (λ (w : ℕ). f < w) (sym (seat_wide pool main of)) below

  pool_since : (pool : Pool A) (main : MainSeat) (engine : EngineOf) → FitsSince (FitsPool pool main) engine → FitsSince (FitsView (forks_of pool) (main_view main)) engine
  pool_since pool main engine since =
      record { old = since.old; events = since.events; was = since.was.1; sound = since.sound; silent = since.silent; plan = since.plan; pool = since.pool; trail = since.trail; run = since.run }

  pub pool_now : (pool : Pool A) (main : MainSeat) (engine : EngineOf) → FitsSince (FitsPool pool main) engine → FitsPool pool main engine
  pool_now pool main engine since = (since.was.0, view_now (forks_of pool) (main_view main) engine (pool_since pool main engine since))

  -- before a job is offered
  pub sent_ready : (pool : Pool A) (main : MainSeat) (engine : EngineOf) (job : Job) → HasSent (FitsPool pool main) engine job
      → IsMainOf pool main × (0 < idle_forks (main_view main)) × IsAbove (main_view main).log job.ticket.0 × (engine.state.sends ≡ job.ticket.0 + 1) × (engine.state.is_open ≡ true)
  sent_ready pool main engine job sent =
      let old = sent.old in
      let fit = pool_now pool main old sent.since in
      let run = run_in (forks_of pool) (main_view main) old sent.since.run fit.1 in
      let may = sent.takes.0 in
      let out = room_to_send old.plan (forks_of pool) old.state sent.host sent.item sent.attempt sent.ticket may run in
      let named = job_host old.plan old.state sent.host sent.ticket job sent.is in
      let same : job.ticket.0 ≡ old.state.sends = ap (λ (u : Ticket). u.0) named.1 ∙ sends_at old.state sent.host.0 sent.item sent.attempt sent.ticket (open_play old.plan old.state) may in
      let more = (outs_sent old.plan (forks_of pool) old.state sent.host sent.item sent.attempt sent.ticket may run).1 in
      let at = sending old.plan old.state sent.host sent.item sent.attempt sent.ticket (open_play old.plan old.state) refl may in
      let there = sent_out old.plan old.state sent.host sent.item sent.attempt sent.ticket job at.0 (open_play old.plan old.state) refl (open_of_job old.plan old.state sent.host sent.ticket job sent.is) at.1 sent.is may in
      let count = fit.1.count in
      let room = fit.1.room in (
        fit.0,
        omega (arith, out, count, room),
        subst (λ (n : ℕ). IsAbove (main_view main).log n) (sym same) fit.1.above,
        ap (λ (v : EngineOf). v.state.sends) sent.takes.1 ∙ more ∙ ap (λ (n : ℕ). n + 1) (sym same),
        ap (λ (v : EngineOf). v.state.is_open) sent.takes.1 ∙ open_of_job old.plan (after old.plan old.state (Send sent.host sent.item sent.attempt sent.ticket)) job.host job.ticket job there.3,
      )

  -- and behind that
  pub sent_fits_pool : (pool : Pool A) (main new : MainSeat) (engine : EngineOf) (job : Job) (f : ℕ) → HasSent (FitsPool pool main) engine job → f < forks_of pool → get_or (main_view main).seen f 0 ≡ 0
      → IsSameMain main new → idle_forks (main_view new) + 1 ≡ idle_forks (main_view main) → jobs_out (main_view new) ≡ jobs_out (main_view main) + 1
      → ((u : ℕ) → job.ticket.0 < u → IsAbove (main_view new).log u) → main_view new ≡ offered_to f job (main_view main) → FitsPool pool new engine
  sent_fits_pool pool main new engine job f sent below idle same room out above offered =
      let fit = pool_now pool main sent.old sent.since in (
        same ∙ fit.0,
        view_sent (forks_of pool) f (main_view main) (main_view new) sent.old engine sent.host sent.item sent.attempt sent.ticket job sent.since.run sent.takes sent.is fit.1 below idle out room above offered,
      )

within_one : (k f : ℕ) (log : List Entry) (e : Entry) → is_fork_below k e ≡ true → AreWithin k log → AreWithin k (log ++ e ∷ [])
within_one k f [] e below all = both (is_fork_below k e) true below refl
within_one k f (x ∷ xs) e below all =
    both (is_fork_below k x) (list_all (is_fork_below k) (xs ++ e ∷ [])) (and_left (is_fork_below k x) _ all) (within_one k f xs e below (and_right (is_fork_below k x) _ all))

pub within_came : (allows : Job → Form → Type 0) (f : ℕ) (m : MainView) (r : Report) (n : MainView) → f < length m.seen → CollectedLast allows f m r n → StaysWithin m n
within_came allows f m r n below came =
    let between = came.0 in
    let log : n.log ≡ m.log ++ Collected f r ∷ [] = ap (λ (v : MainView). v.log) came.3 ∙ ap (λ l. l ++ Collected f r ∷ []) came.1.0 in (
      ap (λ (v : MainView). length v.seen) came.3 ∙ length-set (set between.seen f (4 * r.ticket.0 + 3)) f 0 ∙ length-set between.seen f (4 * r.ticket.0 + 3) ∙ came.1.4,
      λ within. subst (AreWithin (length m.seen)) (sym log) (within_one (length m.seen) f m.log (Collected f r) (lt-ltb f (length m.seen) below) within),
    )

pub posted_sent : (old new : MainSeat) (job : Job) (f : ℕ) → f < length (main_view old).seen → IsSameMain old new → idle_forks (main_view new) + 1 ≡ idle_forks (main_view old) → jobs_out (main_view new) ≡ jobs_out (main_view old) + 1
    → main_view new ≡ offered_to f job (main_view old) → HasPosted old (Goes job ∷ []) new
posted_sent old new job f below same room out offered =
    let m = main_view old in
    let log : (main_view new).log ≡ m.log ++ Offered f job ∷ [] = ap (λ (v : MainView). v.log) offered in (
      same,
      omega (arith, room, out),
      ap (map letter_at) log ∙ map-append letter_at m.log (Offered f job ∷ []),
      (
        ap (λ (v : MainView). length v.seen) offered ∙ length-set m.seen f (4 * job.ticket.0 + 1),
        λ within. subst (AreWithin (length m.seen)) (sym log) (within_one (length m.seen) f m.log (Offered f job) (lt-ltb f (length m.seen) below) within),
      ),
    )

pub posted_came : (allows : Job → Form → Type 0) (old new : MainSeat) (f : ℕ) (r : Report) → f < length (main_view old).seen → IsSameMain old new → idle_forks (main_view new) ≡ idle_forks (main_view old) + 1 → jobs_out (main_view new) + 1 ≡ jobs_out (main_view old)
    → (came : CollectedLast allows f (main_view old) r (main_view new)) → HasPosted old (Comes came.4.1 r.outcome ∷ []) new
posted_came allows old new f r below same room out came =
    let its = came.4.3 in
    let is : r ≡ report_of (came.4.1, r.outcome) = λ i. record { ticket = its.0 i; host = its.1 i; item = its.2 i; attempt = its.3 i; outcome = r.outcome } in (
      same,
      omega (arith, room, out),
      ap (λ (v : MainView). map letter_at v.log) came.3 ∙ map-append letter_at came.0.log (Collected f r ∷ []) ∙ ap (λ l. map letter_at l ++ Came r ∷ []) came.1.0
          ∙ ap (λ (q : Report). map letter_at (main_view old).log ++ Came q ∷ []) is,
      within_came allows f (main_view old) r (main_view new) below came,
    )

-- some job is out where a host's is
some_else : (b any : Bool) (n : ℕ) → (any ≡ true → 0 < n) → (b || any) ≡ true → 0 < cond b 1 0 + n
some_else true any n more e = omega arith
some_else false any n more e = let m = more e in omega (arith, m)

some_more : (any : Bool) (n : ℕ) → (any ≡ true → 0 < n) → (running : Option Running) → (option_map_or (λ (r : Running). is_some r.out) running false || any) ≡ true → 0 < one_out running + n
some_more any n more None e = let m = more e in omega (arith, m)
some_more any n more (Some r) e = some_else (is_some r.out) any n more e

outs_some : (rows : List HostOf) → list_any has_job_out rows ≡ true → 0 < outs (tasks_of rows)
outs_some [] e = cc
outs_some (row ∷ rows) e = some_more (list_any has_job_out rows) (outs (tasks_of rows)) (outs_some rows) row.running e

pub out_ready : {A : Type 0} (pool : Pool A) (main : MainSeat) (engine : EngineOf) → FitsSince (FitsPool pool main) engine → list_any has_job_out engine.state.rows ≡ true
    → IsMainOf pool main × (0 < jobs_out (main_view main))
out_ready {A} pool main engine since out =
    let fit = pool_now pool main engine since in
    let some = outs_some engine.state.rows out in
    let count = fit.1.count in (fit.0, omega (arith, some, count))

-- what comes of a wait
pub came_all : {A : Type 0} (allows : Job → Form → Type 0) (pool : Pool A) (main new : MainSeat) (engine : EngineOf) (f : ℕ) (r : Report) → FitsSince (FitsPool pool main) engine → IsSameMain main new → f < forks_of pool
    → CollectedLast allows f (main_view main) r (main_view new) → jobs_out (main_view new) + 1 ≡ jobs_out (main_view main) → idle_forks (main_view new) ≡ idle_forks (main_view main) + 1
    → ((u : ℕ) → IsAbove (main_view main).log u → IsAbove (main_view new).log u)
    → IsWorkersAnswer allows engine.plan engine.state r × (refusal_of engine.state r ≡ None) × ((next : EngineOf) → Takes engine next (Reported r) → FitsPool pool new next)
    × ((job : Job) × (job_of engine.plan engine.state r.host r.ticket ≡ Some job) × HasPosted main (Comes job r.outcome ∷ []) new)
came_all {A} allows pool main new engine f r since same below came out room above =
    let k = forks_of pool in
    let m = main_view main in
    let n = main_view new in
    let fit = pool_now pool main engine since in (
      workers_answer allows k f m n engine r since.run fit.1 below came out room above,
      report_waits allows k f m n engine r since.run fit.1 below came out room above,
      λ next takes. (same ∙ fit.0, view_came allows k f m n engine r since.run fit.1 below came out room above next takes),
      (came.4.1, job_came allows k f m n engine r since.run fit.1 below came out room above, posted_came allows main new f r (subst (λ (w : ℕ). f < w) (sym fit.1.wide) below) same room out came),
    )

-- ---- before a run
-- where each fork is idle no job is out
one_idle : (b : Bool) (n m : ℕ) → n ≤ m → cond b 1 0 + n ≤ m + 1
one_idle true n m le = omega (arith, le)
one_idle false n m le = omega (arith, le)

few_idle : (ws : List ℕ) → idle_words ws ≤ length ws
few_idle [] = omega arith
few_idle (w ∷ ws) = let more = one_idle (w == 0) (idle_words ws) (length ws) (few_idle ws) in omega (arith, more)

idle_one : (w : ℕ) (ws : List ℕ) (b : Bool) → (w == 0) ≡ b → cond b 1 0 + idle_words ws ≡ length ws + 1 → (idle_words ws ≡ length ws → count_by is_out ws ≡ 0) → count_by is_out (w ∷ ws) ≡ 0
idle_one w ws true is all rest =
    let here : ◌≡◌ {A = ℕ} (cond (is_out w) 1 0) 0 = ap (λ (v : ℕ). cond (is_out v) 1 0) (eqb-true w 0 is) in
    let none = rest (omega (arith, all)) in
    omega (arith, here, none, sum_by-cons (λ (v : ℕ). cond (is_out v) 1 0) w ws)
idle_one w ws false is all rest = let few = few_idle ws in absurd (omega (arith, all, few))

none_if_idle : (ws : List ℕ) → idle_words ws ≡ length ws → count_by is_out ws ≡ 0
none_if_idle [] all = refl
none_if_idle (w ∷ ws) all = idle_one w ws (w == 0) refl (omega (arith, all)) (none_if_idle ws)

all_in : {A : Type 0} (pool : Pool A) (main : MainSeat) → IsMainOf pool main → idle_forks (main_view main) ≡ forks_of pool → jobs_out (main_view main) ≡ 0
all_in {A} pool main of idle = none_if_idle (main_view main).seen (idle ∙ sym (seat_wide pool main of))

none_counted : (ws : List ℕ) (j : ℕ) → count_by is_out ws ≡ 0 → is_out (get_or ws j 0) ≡ true → ⊥
none_counted [] j none o = cc
none_counted (w ∷ ws) zero none o = let one : ◌≡◌ {A = ℕ} (cond (is_out w) 1 0) 1 = ap (λ (b : Bool). cond b 1 0) o in omega (arith, none, one, sum_by-cons (λ (v : ℕ). cond (is_out v) 1 0) w ws)
none_counted (w ∷ ws) (suc j) none o = none_counted ws j (omega (arith, none, sum_by-cons (λ (v : ℕ). cond (is_out v) 1 0) w ws)) o

-- each fork is idle or has a job out, since each was idle at the beginning and none was shut
pub room_kept : {A : Type 0} (pool : Pool A) (old new : MainSeat) → IsMainOf pool old → idle_forks (main_view old) ≡ forks_of pool
    → idle_forks (main_view new) + jobs_out (main_view new) ≡ idle_forks (main_view old) + jobs_out (main_view old) → idle_forks (main_view new) + jobs_out (main_view new) ≡ forks_of pool
room_kept {A} pool old new of idle same = let none = all_in pool old of idle in omega (arith, none, idle, same)

pub fresh_fits : {A : Type 0} (pool : Pool A) (main : MainSeat) (plan : PlanOf) (engine : EngineOf) → IsMainOf pool main → (main_view main).log ≡ [] → idle_forks (main_view main) ≡ forks_of pool
    → plan.forks ≤ forks_of pool → engine ≡ record { plan = plan; pool = forks_of pool; state = first_state plan plan.forks (forks_of pool); trail = [] } → FitsPool pool main engine
fresh_fits {A} pool main plan engine of log idle forks is =
    let none = all_in pool main of idle in
    subst (FitsPool pool main) (sym is) (
      of,
      record {
        size = refl;
        forks = forks;
        wide = seat_wide pool main of;
        room = omega (arith, idle, none);
        count = none ∙ sym (first_outs 0 (length plan.inventory.hosts));
        above = subst (λ (l : List Entry). IsAbove l 0) (sym log) tt;
        each = λ j o. absurd (none_counted (main_view main).seen j none o);
        apart = λ i j a b same. absurd (none_counted (main_view main).seen i none a);
      },
    )
