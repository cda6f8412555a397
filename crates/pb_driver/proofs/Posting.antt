-- What a pool's main seat offered and collected in a whole run.
use Rattle.std.proofs.Common.{◌≡◌, ℕ, ◌+◌, ◌≤◌, Bool, true, false, ◌||◌, cond, length, List, [], ◌∷◌, ◌++◌, map, refl, sym, ◌∙◌, ap, subst, arith, append_assoc, inl, inr}
use Rattle.std.proofs.lemmas.List.{append-nil, map-append}
use Rattle.std.specs.Prelude.{Option, Some, None, Ok, is_some}
use Rattle.std.specs.List.{list_any}
use Rattle.std.specs.Option.{option_map_or}
use Rattle.pb_outcome.specs.declared.job.Job.{Job}
use Rattle.pb_outcome.specs.declared.job.Report.{Report}
use Rattle.pb_forks.specs.declared.seats.Pool.{Pool}
use Rattle.pb_forks.specs.declared.seats.MainSeat.{MainSeat}
use Rattle.pb_forks.specs.declared.views.Entry.{Entry}
use Rattle.pb_forks.specs.declared.views.Entry.TheVariants.{Collected}
use Rattle.pb_forks.specs.declared.views.MainView.{MainView}
use Rattle.pb_forks.specs.Seats.{main_view, forks_of, IsMainOf, IsSameMain}
use Rattle.pb_outcome.specs.declared.outcome.Form.{Form}
use Rattle.pb_forks.specs.Views.{CollectedLast, idle_forks, jobs_out}
use Rattle.pb_plan.specs.Plan.{PlanOf}
use Rattle.pb_host.specs.declared.host.Running.{Running}
use Rattle.pb_host.specs.Host.{HostOf}
use Rattle.pb_host.specs.Runs.{is_out}
use Rattle.pb_state.specs.declared.event.Event.{Event}
use Rattle.pb_state.specs.Machine.{first_state}
use Rattle.pb_engine.proofs.Laws.{tasks_of}
use Rattle.pb_engine.specs.EngineOf.{EngineOf, engine_of}
use Rattle.pb_driver.specs.declared.driver.RunFault.{RunFault}
use Rattle.pb_driver.specs.Crews.{HasFitEnd, HasPosted, StaysWithin, stays_more}
use Rattle.pb_driver.specs.Driven.{Answers}
use Rattle.pb_engine.specs.Laws.{outs, one_out}
use Rattle.pb_driver.specs.FitsPool.{FitsPool}
use Rattle.pb_driver.specs.Mails.{Mail, Comes, Came, letter_at, letter_of, mails_of, AreMails, AreWithin, HasDrained, HasGoneTo}
use Rattle.pb_driver.proofs.Driving.{made_is}
use Rattle.pb_driver.proofs.Pooling.{pool_now, fresh_fits, seat_wide}
use Rattle.pb_runner.specs.Served.{report_of}

-- the whole run
pub posted_all : (plan : PlanOf) (pool : ℕ) (trail : List Event) (old mid : MainSeat) (last : List Entry) → HasPosted old (mails_of plan pool trail) mid → (main_view old).log ≡ [] → last ≡ (main_view mid).log
    → AreMails plan pool trail [] last
posted_all plan pool trail old mid last posted none same =
    ap (map letter_at) same ∙ posted.2 ∙ ap (λ (l : List Entry). map letter_at l ++ map letter_of (mails_of plan pool trail)) none ∙ sym (append-nil (map letter_of (mails_of plan pool trail)))

-- one that couldn't go on
pub gone_same : (answers : Answers) (plan : PlanOf) (pool : ℕ) (trail : List Event) (fault : RunFault) (old mid : MainSeat) → HasGoneTo answers (λ mails. HasPosted old mails mid) plan pool trail fault
    → IsSameMain old mid × (idle_forks (main_view mid) + jobs_out (main_view mid) ≡ idle_forks (main_view old) + jobs_out (main_view old)) × StaysWithin (main_view old) (main_view mid)
gone_same answers plan pool trail fault old mid (inl posted) = (posted.0, posted.1, posted.3)
gone_same answers plan pool trail fault old mid (inr (memory, lost)) = (lost.4.0, lost.4.1, lost.4.3)

later_by : (old mid : MainSeat) (last : List Entry) (mails : List Mail) → HasPosted old mails mid → (main_view old).log ≡ [] → HasDrained (main_view mid).log last
    → (later : List Report) × (map letter_at last ≡ map letter_of mails ++ map Came later)
later_by old mid last mails posted none drained = (
  drained.0,
  drained.1 ∙ ap (λ l. l ++ map Came drained.0) (posted.2 ∙ ap (λ (l : List Entry). map letter_at l ++ map letter_of mails) none),
)

pub gone_later : (answers : Answers) (plan : PlanOf) (pool : ℕ) (trail : List Event) (fault : RunFault) (old mid : MainSeat) (last : List Entry) → HasGoneTo answers (λ mails. HasPosted old mails mid) plan pool trail fault
    → (main_view old).log ≡ [] → HasDrained (main_view mid).log last → (later : List Report) × AreMails plan pool trail later last
gone_later answers plan pool trail fault old mid last (inl posted) none drained = later_by old mid last (mails_of plan pool trail) posted none drained
gone_later answers plan pool trail fault old mid last (inr (memory, lost)) none drained =
    let more = later_by old mid last (mails_of plan pool trail ++ Comes lost.1 lost.0.outcome ∷ []) lost.4 none drained in (
      report_of (lost.1, lost.0.outcome) ∷ more.0,
      more.1 ∙ ap (λ l. l ++ map Came more.0) (map-append letter_of (mails_of plan pool trail) (Comes lost.1 lost.0.outcome ∷ []))
          ∙ append_assoc (map letter_of (mails_of plan pool trail)) (Came (report_of (lost.1, lost.0.outcome)) ∷ []) (map Came more.0),
    )

-- no job is out at its end
none_else : (b any : Bool) (n : ℕ) → (any ≡ false → n ≡ 0) → (b || any) ≡ false → cond b 1 0 + n ≡ 0
none_else true any n more e = cc
none_else false any n more e = let m = more e in omega (arith, m)

none_more : (any : Bool) (n : ℕ) → (any ≡ false → n ≡ 0) → (running : Option Running) → (option_map_or (λ (r : Running). is_some r.out) running false || any) ≡ false → one_out running + n ≡ 0
none_more any n more None e = let m = more e in omega (arith, m)
none_more any n more (Some r) e = none_else (is_some r.out) any n more e

outs_none : (rows : List HostOf) → list_any is_out rows ≡ false → outs (tasks_of rows) ≡ 0
outs_none [] e = refl
outs_none (row ∷ rows) e = none_more (list_any is_out rows) (outs (tasks_of rows)) (outs_none rows) row.running e

pub none_out : {A : Type 0} (pool : Pool A) (main : MainSeat) → HasFitEnd (FitsPool pool main) → jobs_out (main_view main) ≡ 0
none_out {A} pool main end = (pool_now pool main end.engine end.since).1.count ∙ outs_none end.engine.state.rows end.finished.none_out

-- the reports that were out are collected
pub drained_none : (log : List Entry) → HasDrained log log
drained_none log = ([], sym (append-nil (map letter_at log)))

pub drained_more : (old mid new : List Entry) (f : ℕ) (r : Report) → HasDrained old mid → new ≡ mid ++ Collected f r ∷ [] → HasDrained old new
drained_more old mid new f r drained is = (
  drained.0 ++ r ∷ [],
  ap (map letter_at) is ∙ map-append letter_at mid (Collected f r ∷ []) ∙ ap (λ l. l ++ Came r ∷ []) drained.1 ∙ append_assoc (map letter_at old) (map Came drained.0) (Came r ∷ [])
      ∙ ap (λ l. map letter_at old ++ l) (sym (map-append Came drained.0 (r ∷ []))),
)

pub collected_log : (allows : Job → Form → Type 0) (f : ℕ) (m n : MainView) (r : Report) → CollectedLast allows f m r n → n.log ≡ m.log ++ Collected f r ∷ []
collected_log allows f m n r came = ap (λ (v : MainView). v.log) came.3 ∙ ap (λ l. l ++ Collected f r ∷ []) came.1.0

-- and all went to forks of the pool
pub within_all : {A : Type 0} (pool : Pool A) (old mid new : MainSeat) → IsMainOf pool old → (main_view old).log ≡ [] → StaysWithin (main_view old) (main_view mid) → StaysWithin (main_view mid) (main_view new) → AreWithin (forks_of pool) (main_view new).log
within_all {A} pool old mid new of none a b =
    subst (λ (k : ℕ). AreWithin k (main_view new).log) (seat_wide pool old of)
    ((stays_more (main_view old) (main_view mid) (main_view new) a b).1 (subst (AreWithin (length (main_view old).seen)) (sym none) refl))

-- before a run
pub fits_first : {A : Type 0} (pool : Pool A) (main : MainSeat) (plan : PlanOf) (k : ℕ) (engine : EngineOf) → IsMainOf pool main → (main_view main).log ≡ [] → idle_forks (main_view main) ≡ forks_of pool
    → k ≡ forks_of pool → plan.forks ≤ forks_of pool → engine_of plan k ≡ Ok engine → FitsPool pool main engine
fits_first {A} pool main plan k engine of log idle is forks made =
    fresh_fits pool main plan engine of log idle forks (sym (made_is plan k engine made) ∙ ap (λ (n : ℕ). record { plan = plan; pool = n; state = first_state plan plan.forks n; trail = [] }) is)
