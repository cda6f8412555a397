-- What a pool's main seat remembers beside the engine whose jobs it has, from event to event.
use Rattle.std.proofs.Common.{◌≡◌, ◌≢◌, ℕ, ◌+◌, ◌*◌, ◌/◌, ◌%◌, ◌<◌, ◌≤◌, Bool, true, false, ◌&&◌, not, cond, List, [], ◌∷◌, ◌++◌, length, get_or, set, refl, sym, ◌∙◌, ap, subst, arith, append_assoc, length-set, get_or-set_same, get_or-set_other, eq-eqb, ne_eqb}
use Rattle.std.specs.Prelude.{◌==◌, Option, Some, None, slice_get}
use Rattle.std.specs.Option.{option_map_or}
use Rattle.std.proofs.lemmas.Bool.{eqb-true}
use Rattle.std.proofs.lemmas.List.{append-nil}
use mathlib.Core.Logic.{dite}
use native.Mathlib.Decide.{ℕ_discrete}
use Rattle.pb_ids.specs.declared.numbers.HostNo.{HostNo}
use Rattle.pb_ids.specs.declared.numbers.Ticket.{Ticket}
use Rattle.pb_outcome.specs.declared.job.Job.{Job}
use Rattle.pb_outcome.specs.declared.job.Report.{Report}
use Rattle.pb_outcome.specs.declared.outcome.Form.{Form}
use Rattle.pb_forks.specs.declared.views.Entry.{Entry}
use Rattle.pb_forks.specs.declared.views.Entry.TheVariants.{Offered, Collected}
use Rattle.pb_forks.specs.declared.views.MainView.{MainView}
use Rattle.pb_forks.specs.Logs.{IsAbove, EndsIn, Fits, offers_of}
use Rattle.pb_forks.specs.Views.{CollectedLast, offered_to, idle_forks, jobs_out, is_out}
use Rattle.pb_forks.proofs.Logs.{offers-other, offers-here, offers-collected}
use Rattle.pb_runner.specs.Served.{report_of}
use Rattle.pb_plan.specs.Plan.{PlayOf, PlanOf}
use Rattle.pb_host.specs.declared.host.Running.{Running}
use Rattle.pb_state.specs.declared.event.Event.{Event}
use Rattle.pb_state.specs.declared.event.Event.TheVariants.{Send, Report as Reported}
use Rattle.pb_state.specs.Jobs.{job_of}
use Rattle.pb_state.specs.Machine.{possible, after, first_state, open_play, may_send_in}
use Rattle.pb_state.specs.Run.{legal_from, state_from, IsLegal, state_after}
use Rattle.pb_state.specs.State.{State}
use Rattle.pb_state.proofs.StepNumbers.{and_left, and_right}
use Rattle.pb_state.proofs.Trails.{run_more, legal_rest, state_both}
use Rattle.pb_engine.specs.EngineOf.{EngineOf, Takes, taken, IsSound}
use Rattle.pb_engine.specs.Refusals.{refusal_of}
use Rattle.pb_engine.proofs.Waits.{out_awaited}
use Rattle.pb_engine.proofs.Laws.{stays_out, job_host, sent_out, open_of_job, InRun, in_run, outs_silent, outs_sent, outs_reported, sending, silent_says, send_says, report_tells}
use Rattle.pb_driver.specs.Crews.{AreSilent, FitsSince}
use Rattle.pb_driver.specs.Driven.{IsWorkersAnswer}
use Rattle.pb_driver.specs.FitsPool.{HasItsJob, FitsView}
use Rattle.pb_engine.specs.Laws.{IsOut, has_mail, tasks}

-- ---- the view beside an engine
out_is : (w : ℕ) → is_out w ≡ true → w % 4 ≢ 0
out_is w e z = let wrong : true ≡ false = sym e ∙ ap not (eq-eqb (w % 4) 0 z) in cc

is_out_of : (w : ℕ) → w % 4 ≢ 0 → is_out w ≡ true
is_out_of w ne = ap not (ne_eqb (w % 4) 0 ne)

-- an event without mail
silent_one : (k : ℕ) (m : MainView) (old : EngineOf) (e : Event) → IsSound old → possible old.plan old.state e ≡ true → has_mail e ≡ false → FitsView k m old → FitsView k m (taken old e)
silent_one k m old e sound may none fit =
    let run : InRun old.plan k old.state = subst (λ (n : ℕ). InRun old.plan n old.state) fit.size (in_run old.plan old.pool old.trail old.state (subst (λ (n : ℕ). old.plan.forks ≤ n) (sym fit.size) fit.forks) sound) in
    let same = outs_silent old.plan k old.state e may run none in
    let says = silent_says old.plan old.state (after old.plan old.state e) e none in
    record {
      size = fit.size;
      forks = fit.forks;
      wide = fit.wide;
      room = fit.room;
      count = fit.count ∙ sym same.0;
      above = subst (λ (n : ℕ). IsAbove m.log n) (sym same.1) fit.above;
      each = λ j out.
          let has = fit.each j out in
          (has.0, has.1, has.2, stays_out old.plan k old.state e has.0 may run (says.silent refl has.0.host.0) has.3);
      apart = fit.apart;
    }

-- events without mail, one after another
along : EngineOf → List Event → EngineOf
along old [] = old
along old (e ∷ es) = along (taken old e) es

along_is : (old : EngineOf) (es : List Event) → along old es ≡ record { plan = old.plan; pool = old.pool; state = state_from old.plan old.state es; trail = old.trail ++ es }
unfolding along
along_is old [] = λ i. record { plan = old.plan; pool = old.pool; state = old.state; trail = sym (append-nil old.trail) i }
along_is old (e ∷ es) =
    along_is (taken old e) es
    ∙ (λ i. record { plan = old.plan; pool = old.pool; state = state_from old.plan (after old.plan old.state e) es; trail = append_assoc old.trail (e ∷ []) es i })

silent_all : (k : ℕ) (m : MainView) (old : EngineOf) (es : List Event) → IsSound old → AreSilent es → legal_from old.plan old.state es ≡ true → FitsView k m old → FitsView k m (along old es)
unfolding along
silent_all k m old [] sound silent legal fit = fit
silent_all k m old (e ∷ es) sound silent legal fit =
    let may = and_left (possible old.plan old.state e) _ legal in
    silent_all k m (taken old e) es (run_more old.plan old.pool old.trail old.state e sound may) silent.1 (and_right (possible old.plan old.state e) _ legal) (silent_one k m old e sound may silent.0 fit)

pub view_now : (k : ℕ) (m : MainView) (engine : EngineOf) → FitsSince (FitsView k m) engine → FitsView k m engine
view_now k m engine since =
    let old = since.old in
    let first = first_state old.plan old.plan.forks old.pool in
    let legal : IsLegal old.plan old.pool (old.trail ++ since.events) =
    subst (λ (t : List Event). IsLegal old.plan old.pool t) since.trail (subst (λ (n : ℕ). IsLegal old.plan n engine.trail) since.pool (subst (λ (p : PlanOf). IsLegal p engine.pool engine.trail) since.plan since.run.legal)) in
    let ends : state_after old.plan old.pool (old.trail ++ since.events) ≡ engine.state =
    subst (λ (t : List Event). state_after old.plan old.pool t ≡ engine.state) since.trail (subst (λ (n : ℕ). state_after old.plan n engine.trail ≡ engine.state) since.pool (subst (λ (p : PlanOf). state_after p engine.pool engine.trail ≡ engine.state) since.plan since.run.ends)) in
    let on : legal_from old.plan old.state since.events ≡ true = subst (λ (t : State). legal_from old.plan t since.events ≡ true) since.sound.ends (legal_rest old.plan first old.trail since.events legal) in
    let there : state_from old.plan old.state since.events ≡ engine.state =
    ap (λ (t : State). state_from old.plan t since.events) (sym since.sound.ends) ∙ sym (state_both old.plan first old.trail since.events) ∙ ends in
    let is : along old since.events ≡ engine =
    along_is old since.events ∙ (λ i. record { plan = sym since.plan i; pool = sym since.pool i; state = there i; trail = sym since.trail i }) in
    subst (FitsView k m) is (silent_all k m old since.events since.sound since.silent on since.was)

-- the last of the offers to a fork, and what is above it
AllBelow : ℕ → List Job → Type 0
AllBelow n [] = Unit {0}
AllBelow n (y ∷ ys) = (y.ticket.0 < n) × AllBelow n ys

put_if : (n : ℕ) (b : Bool) (y : Job) (ys : List Job) → y.ticket.0 < n → AllBelow n ys → AllBelow n (cond b (y ∷ ys) ys)
unfolding AllBelow
put_if n true y ys lt all = (lt, all)
put_if n false y ys lt all = all

each_below : (n j : ℕ) (es : List Entry) → IsAbove es n → AllBelow n (offers_of j es)
unfolding AllBelow
each_below n j [] a = tt
each_below n j (Offered f y ∷ es) a = put_if n (f == j) y (offers_of j es) a.0 (each_below n j es a.1)
each_below n j (Collected f r ∷ es) a = each_below n j es a

last_below : (n : ℕ) (front : List Job) (x : Job) → AllBelow n (front ++ x ∷ []) → x.ticket.0 < n
unfolding AllBelow
last_below n [] x all = all.0
last_below n (y ∷ front) x all = last_below n front x all.1

offer_below : (n j : ℕ) (es : List Entry) (x : Job) → IsAbove es n → EndsIn (offers_of j es) x → x.ticket.0 < n
offer_below n j es x above ends = last_below n ends.0 x (subst (AllBelow n) ends.1 (each_below n j es above))

last_or : Job → List Job → Job
last_or d [] = d
last_or d (z ∷ zs) = last_or z zs

last_at : (d : Job) (zs : List Job) (z : Job) → last_or d (zs ++ z ∷ []) ≡ z
unfolding last_or
last_at d [] z = refl
last_at d (w ∷ zs) z = last_at w zs z

last_same : (xs ys : List Job) (x y : Job) → xs ++ x ∷ [] ≡ ys ++ y ∷ [] → x ≡ y
last_same xs ys x y e = sym (last_at x xs x) ∙ ap (last_or x) e ∙ last_at x ys y

-- a job that goes out
pub sends_at : (s : State) (h item attempt : ℕ) (t : Ticket) (found : Option PlayOf) → option_map_or (may_send_in s h item attempt t) found false ≡ true → t.0 ≡ s.sends
sends_at s h item attempt t None e = cc
sends_at s h item attempt t (Some play) e = eqb-true t.0 s.sends (and_right (not s.stopped) _ (and_left (not s.stopped && (t.0 == s.sends)) _ e))

module _ (k f : ℕ) (m n : MainView) (old new : EngineOf) (h : HostNo) (item attempt : ℕ) (t : Ticket) (x : Job) (sound : IsSound old) (takes : Takes old new (Send h item attempt t)) (is : job_of old.plan old.state h t ≡ Some x) (fit : FitsView k m old) (below : f < k) (idle : get_or m.seen f 0 ≡ 0) (out : jobs_out n ≡ jobs_out m + 1) (room : idle_forks n + 1 ≡ idle_forks m) (above : (u : ℕ) → x.ticket.0 < u → IsAbove n.log u) (offered : n ≡ offered_to f x m) where
  sent_run : InRun old.plan k old.state
  sent_run = subst (λ (z : ℕ). InRun old.plan z old.state) fit.size (in_run old.plan old.pool old.trail old.state (subst (λ (z : ℕ). old.plan.forks ≤ z) (sym fit.size) fit.forks) sound)

  seen_is : n.seen ≡ set m.seen f (4 * x.ticket.0 + 1)
  seen_is = ap (λ (v : MainView). v.seen) offered

  log_is : n.log ≡ m.log ++ Offered f x ∷ []
  log_is = ap (λ (v : MainView). v.log) offered

  seen_here : get_or n.seen f 0 ≡ 4 * x.ticket.0 + 1
  seen_here = ap (λ (ws : List ℕ). get_or ws f 0) seen_is ∙ get_or-set_same m.seen f (4 * x.ticket.0 + 1) 0 (omega (arith, below, fit.wide))

  seen_other : (j : ℕ) → j ≢ f → get_or n.seen j 0 ≡ get_or m.seen j 0
  seen_other j ne = ap (λ (ws : List ℕ). get_or ws j 0) seen_is ∙ get_or-set_other m.seen f j (4 * x.ticket.0 + 1) 0 ne

  new_is : new ≡ taken old (Send h item attempt t)
  new_is = takes.1

  sends_are : t.0 ≡ old.state.sends
  sends_are = sends_at old.state h.0 item attempt t (open_play old.plan old.state) takes.0

  stays_here : (y : Job) → IsOut old.plan old.state y → IsOut old.plan (after old.plan old.state (Send h item attempt t)) y
  stays_here y o = stays_out old.plan k old.state (Send h item attempt t) y takes.0 sent_run ((send_says old.plan old.state (after old.plan old.state (Send h item attempt t)) h item attempt t takes.0).silent refl y.host.0) o

  out_here : IsOut old.plan (after old.plan old.state (Send h item attempt t)) x
  out_here =
      let at = sending old.plan old.state h item attempt t (open_play old.plan old.state) refl takes.0 in
      sent_out old.plan old.state h item attempt t x at.0 (open_play old.plan old.state) refl (open_of_job old.plan old.state h t x is) at.1 is takes.0

  has_here : (j : ℕ) → is_out (get_or n.seen j 0) ≡ true → HasItsJob n (taken old (Send h item attempt t)) j
  has_here j o = dite (ℕ_discrete j f)
      (λ e. subst (HasItsJob n (taken old (Send h item attempt t))) (sym e) (x, (offers_of f m.log, ap (offers_of f) log_is ∙ offers-here f x m.log), (let w = seen_here in omega arith), out_here))
      (λ ne.
      let has = fit.each j (subst (λ (w : ℕ). is_out w ≡ true) (seen_other j ne) o) in
      (has.0, (has.1.0, ap (offers_of j) log_is ∙ offers-other j f x m.log ne ∙ has.1.1), ap (λ (w : ℕ). w / 4) (seen_other j ne) ∙ has.2, stays_here has.0 has.3))

  tickets_below : (j : ℕ) → j ≢ f → is_out (get_or n.seen j 0) ≡ true → get_or n.seen j 0 / 4 < x.ticket.0
  tickets_below j ne o =
      let has = fit.each j (subst (λ (w : ℕ). is_out w ≡ true) (seen_other j ne) o) in
      let low = offer_below old.state.sends j m.log has.0 fit.above has.1 in
      let named = (job_host old.plan old.state h t x is).1 in
      let same : x.ticket.0 ≡ old.state.sends = ap (λ (u : Ticket). u.0) named ∙ sends_are in
      let w : get_or n.seen j 0 / 4 ≡ has.0.ticket.0 = ap (λ (v : ℕ). v / 4) (seen_other j ne) ∙ has.2 in
      omega (arith, low, same, w)

  here_ticket : get_or n.seen f 0 / 4 ≡ x.ticket.0
  here_ticket = let w = seen_here in omega arith

  apart_here : (i j : ℕ) → is_out (get_or n.seen i 0) ≡ true → is_out (get_or n.seen j 0) ≡ true → get_or n.seen i 0 / 4 ≡ get_or n.seen j 0 / 4 → i ≡ j
  apart_here i j a b same = dite (ℕ_discrete i f)
      (λ ei. dite (ℕ_discrete j f)
      (λ ej. ei ∙ sym ej)
      (λ nj. absurd (let low = tickets_below j nj b in let w : get_or n.seen i 0 / 4 ≡ x.ticket.0 = ap (λ (z : ℕ). get_or n.seen z 0 / 4) ei ∙ here_ticket in omega (arith, low, w, same))))
      (λ ni. dite (ℕ_discrete j f)
      (λ ej. absurd (let low = tickets_below i ni a in let w : get_or n.seen j 0 / 4 ≡ x.ticket.0 = ap (λ (z : ℕ). get_or n.seen z 0 / 4) ej ∙ here_ticket in omega (arith, low, w, same)))
      (λ nj. fit.apart i j (subst (λ (w : ℕ). is_out w ≡ true) (seen_other i ni) a) (subst (λ (w : ℕ). is_out w ≡ true) (seen_other j nj) b) (ap (λ (w : ℕ). w / 4) (sym (seen_other i ni)) ∙ same ∙ ap (λ (w : ℕ). w / 4) (seen_other j nj))))

  sent_fits : FitsView k n (taken old (Send h item attempt t))
  sent_fits =
      let counts = outs_sent old.plan k old.state h item attempt t takes.0 sent_run in
      let named = (job_host old.plan old.state h t x is).1 in
      let same : x.ticket.0 ≡ old.state.sends = ap (λ (u : Ticket). u.0) named ∙ sends_are in
      record {
        size = fit.size;
        forks = fit.forks;
        wide = ap length seen_is ∙ length-set m.seen f (4 * x.ticket.0 + 1) ∙ fit.wide;
        room = let r = fit.room in omega (arith, r, out, room);
        count = let c = fit.count in let more = counts.0 in omega (arith, c, out, more);
        above = let more = counts.1 in above (after old.plan old.state (Send h item attempt t)).sends (omega (arith, more, same));
        each = has_here;
        apart = apart_here;
      }

  pub view_sent : FitsView k n new
  view_sent = subst (FitsView k n) (sym new_is) sent_fits

-- a report that comes
module _ (allows : Job → Form → Type 0) (k f : ℕ) (m n : MainView) (engine : EngineOf) (r : Report) (sound : IsSound engine) (fit : FitsView k m engine) (below : f < k) (came : CollectedLast allows f m r n) (out : jobs_out n + 1 ≡ jobs_out m) (room : idle_forks n ≡ idle_forks m + 1) (above : (u : ℕ) → IsAbove m.log u → IsAbove n.log u) where
  abbrev x : Job
  x = came.4.1

  its : Fits allows x r
  its = came.4.3

  -- what the seat saw while it waited
  was_out : (j : ℕ) → get_or came.0.seen j 0 % 4 ≢ 0 → (get_or m.seen j 0 % 4 ≢ 0) × (get_or came.0.seen j 0 / 4 ≡ get_or m.seen j 0 / 4)
  was_out j ne =
      let sees = came.1.6 j in
      let some : get_or m.seen j 0 % 4 ≢ 0 = λ z. ne (ap (λ (w : ℕ). w % 4) (sees.0 z) ∙ z) in
      (some, (sees.1 some).0)

  between_out : get_or came.0.seen f 0 % 4 ≢ 0
  between_out z = let same = came.2.0 z in omega (arith, z, same)

  fork_out : is_out (get_or m.seen f 0) ≡ true
  fork_out = is_out_of (get_or m.seen f 0) (was_out f between_out).0

  same_x : x ≡ (fit.each f fork_out).0
  same_x = let has = fit.each f fork_out in last_same came.4.0 has.1.0 x has.0 (sym came.4.2 ∙ has.1.1)

  x_out : IsOut engine.plan engine.state x
  x_out = subst (IsOut engine.plan engine.state) (sym same_x) (fit.each f fork_out).3

  x_ticket : get_or m.seen f 0 / 4 ≡ x.ticket.0
  x_ticket = (fit.each f fork_out).2 ∙ ap (λ (y : Job). y.ticket.0) (sym same_x)

  pub job_came : job_of engine.plan engine.state r.host r.ticket ≡ Some x
  job_came = ap (λ (h : HostNo). job_of engine.plan engine.state h r.ticket) its.1 ∙ ap (λ (t : Ticket). job_of engine.plan engine.state x.host t) its.0 ∙ x_out.3

  pub workers_answer : IsWorkersAnswer allows engine.plan engine.state r
  workers_answer = record { job = x; is_out = job_came; its = (its.0, its.1, its.2, its.3); allowed = its.4 }

  pub report_waits : refusal_of engine.state r ≡ None
  report_waits = out_awaited engine.plan engine.pool engine.trail engine.state x r sound x_out (its.0, its.1, its.2, its.3)

  seen_after : n.seen ≡ set (set came.0.seen f (4 * r.ticket.0 + 3)) f 0
  seen_after = ap (λ (v : MainView). v.seen) came.3

  log_after : n.log ≡ m.log ++ Collected f r ∷ []
  log_after = ap (λ (v : MainView). v.log) came.3 ∙ ap (λ l. l ++ Collected f r ∷ []) came.1.0

  wide_after : length n.seen ≡ k
  wide_after = ap length seen_after ∙ length-set (set came.0.seen f (4 * r.ticket.0 + 3)) f 0 ∙ length-set came.0.seen f (4 * r.ticket.0 + 3) ∙ came.1.4 ∙ fit.wide

  here_after : get_or n.seen f 0 ≡ 0
  here_after =
      ap (λ (ws : List ℕ). get_or ws f 0) seen_after
      ∙ get_or-set_same (set came.0.seen f (4 * r.ticket.0 + 3)) f 0 0 (let w = fit.wide in let l = came.1.4 in let s : length (set came.0.seen f (4 * r.ticket.0 + 3)) ≡ length came.0.seen = length-set came.0.seen f (4 * r.ticket.0 + 3) in omega (arith, below, w, l, s))

  other_after : (j : ℕ) → j ≢ f → get_or n.seen j 0 ≡ get_or came.0.seen j 0
  other_after j ne =
      ap (λ (ws : List ℕ). get_or ws j 0) seen_after ∙ get_or-set_other (set came.0.seen f (4 * r.ticket.0 + 3)) f j 0 0 ne
      ∙ get_or-set_other came.0.seen f j (4 * r.ticket.0 + 3) 0 ne

  -- a fork whose job is out now is another one, and its job was out
  still_out : (j : ℕ) → is_out (get_or n.seen j 0) ≡ true → (j ≢ f) × (is_out (get_or m.seen j 0) ≡ true) × (get_or n.seen j 0 / 4 ≡ get_or m.seen j 0 / 4)
  still_out j o =
      let other : j ≢ f = λ e. out_is (get_or n.seen j 0) o (ap (λ (i : ℕ). get_or n.seen i 0 % 4) e ∙ ap (λ (w : ℕ). w % 4) here_after) in
      let between : get_or came.0.seen j 0 % 4 ≢ 0 = λ z. out_is (get_or n.seen j 0) o (ap (λ (w : ℕ). w % 4) (other_after j other) ∙ z) in
      let before = was_out j between in
      (other, is_out_of (get_or m.seen j 0) before.0, ap (λ (w : ℕ). w / 4) (other_after j other) ∙ before.1)

  -- on another host
  some_run : (a b : Running) → ◌≡◌ {A = Option (Option Running)} (Some (Some a)) (Some (Some b)) → a ≡ b
  some_run a b e = cc

  some_ticket : (a b : Ticket) → ◌≡◌ {A = Option Ticket} (Some a) (Some b) → a ≡ b
  some_ticket a b e = cc

  other_host : (j : ℕ) → j ≢ f → (o : is_out (get_or m.seen j 0) ≡ true) → (fit.each j o).0.host.0 ≢ r.host.0
  other_host j ne o same =
      let has = fit.each j o in
      let host : has.0.host.0 ≡ x.host.0 = same ∙ ap (λ (h : HostNo). h.0) its.1 in
      let run : has.3.0 ≡ x_out.0 = some_run has.3.0 x_out.0 (sym has.3.1 ∙ ap (slice_get (tasks engine.state)) host ∙ x_out.1) in
      let ticket : has.0.ticket ≡ x.ticket = some_ticket has.0.ticket x.ticket (sym has.3.2 ∙ ap (λ (q : Running). q.out) run ∙ x_out.2) in
      ne (fit.apart j f o fork_out (has.2 ∙ ap (λ (t : Ticket). t.0) ticket ∙ sym x_ticket))

  came_run : InRun engine.plan k engine.state
  came_run = subst (λ (z : ℕ). InRun engine.plan z engine.state) fit.size (in_run engine.plan engine.pool engine.trail engine.state (subst (λ (z : ℕ). engine.plan.forks ≤ z) (sym fit.size) fit.forks) sound)

  has_after : possible engine.plan engine.state (Reported r) ≡ true → (j : ℕ) → is_out (get_or n.seen j 0) ≡ true → HasItsJob n (taken engine (Reported r)) j
  has_after may j o =
      let still = still_out j o in
      let has = fit.each j still.1 in
      let silent = report_tells engine.plan engine.state (after engine.plan engine.state (Reported r)) r has.0.host.0 (other_host j still.0 still.1) in (
        has.0,
        (has.1.0, ap (offers_of j) log_after ∙ offers-collected j f r m.log ∙ has.1.1),
        still.2 ∙ has.2,
        stays_out engine.plan k engine.state (Reported r) has.0 may came_run silent has.3,
      )

  after_fits : possible engine.plan engine.state (Reported r) ≡ true → FitsView k n (taken engine (Reported r))
  after_fits may =
      let counts = outs_reported engine.plan k engine.state r may came_run in
      record {
        size = fit.size;
        forks = fit.forks;
        wide = wide_after;
        room = let w = fit.room in omega (arith, w, out, room);
        count = let c = fit.count in let less = counts.0 in omega (arith, c, out, less);
        above = subst (λ (u : ℕ). IsAbove n.log u) (sym counts.1) (above engine.state.sends fit.above);
        each = has_after may;
        apart = λ i j a b same.
            let p = still_out i a in
            let q = still_out j b in
            fit.apart i j p.1 q.1 (sym p.2 ∙ same ∙ q.2);
      }

  pub view_came : (new : EngineOf) → Takes engine new (Reported r) → FitsView k n new
  view_came new takes = subst (FitsView k n) (sym takes.1) (after_fits takes.0)

  pub report_is : r ≡ report_of (x, r.outcome)
  report_is = λ i. record { ticket = its.0 i; host = its.1 i; item = its.2 i; attempt = its.3 i; outcome = r.outcome }

pub run_in : (k : ℕ) (m : MainView) (engine : EngineOf) → IsSound engine → FitsView k m engine → InRun engine.plan k engine.state
run_in k m engine sound fit =
    subst (λ (n : ℕ). InRun engine.plan n engine.state) fit.size (in_run engine.plan engine.pool engine.trail engine.state (subst (λ (n : ℕ). engine.plan.forks ≤ n) (sym fit.size) fit.forks) sound)
