-- A job that is out stays what it is until its host reports, and then its report may come.
use Rattle.std.proofs.Common.{◌≡◌, ℕ, zero, suc, ◌≤◌, Bool, true, false, List, [], ◌∷◌, refl, sym, ◌∙◌, ap, subst}
use Rattle.std.specs.Prelude.{◌==◌, Option, Some, None, option_map, unwrap_or, slice_get, if◌then◌else◌}
use Rattle.std.specs.Option.{option_map_or}
use Rattle.std.proofs.lemmas.Bool.{eq-eqb}
use Rattle.pb_ids.specs.declared.numbers.HostNo.{HostNo}
use Rattle.pb_ids.specs.declared.numbers.Ticket.{Ticket}
use Rattle.pb_outcome.specs.declared.job.Call.{Call}
use Rattle.pb_outcome.specs.declared.job.Job.{Job}
use Rattle.pb_outcome.specs.declared.job.Report.{Report}
use Rattle.pb_outcome.specs.Items.{next_item}
use Rattle.pb_tree.specs.Tree.{path_at}
use Rattle.pb_plan.specs.Plan.{PlayOf, PlanOf}
use Rattle.pb_host.specs.Attempts.{attempt_next}
use Rattle.pb_host.specs.Calls.{call_in, delegate_in}
use Rattle.pb_host.specs.declared.host.Running.{Running}
use Rattle.pb_host.specs.Host.{HostOf, sent, sent_running}
use Rattle.pb_host.specs.Runs.{has_ticket, is_ticket, is_item, is_next, awaits, awaits_running, item_of, attempt_of}
use Rattle.pb_hosts.specs.Hosts.{at_row}
use Rattle.pb_state.specs.declared.event.Event.{Event}
use Rattle.pb_state.specs.declared.event.Event.TheVariants.{Open, Start, Send, Report as Reported, Turn, Close, Stop, Forks}
use Rattle.pb_state.specs.Jobs.{AttemptOf, job_of, job_in, row_job, running_job, item_job, placed_job, connector_for, job_with, next_attempt as item_attempt}
use Rattle.pb_state.specs.Machine.{possible, after, open_play, item_at, attempt_at, may_send_in, may_report_in, sent_in}
use Rattle.pb_state.specs.Run.{IsRun}
use Rattle.pb_state.specs.State.{State}
use Rattle.pb_state.proofs.Stands.{both}
use Rattle.pb_laws.specs.History.{happenings}
use Rattle.pb_laws.specs.JobsOut.{IsOut, IsReportOf, FitsWorkers, is_report_of, tasks, runs}
use Rattle.pb_laws.proofs.JobsInOrder.{put_there}
use Rattle.pb_laws.proofs.OutJobs.{InRun, in_run, room_to_send, sending, send_says, silent_says, report_tells, outs_most, step_tells, stays_next, tells_of}
use Rattle.pb_laws.proofs.Telling.{get_map, put, put_change, tasks_of, seen}

-- a job is of its host's next item, and of the attempt at it that is next
some_is : {X : Type 0} (x y : X) → Some x ≡ Some y → x ≡ y
some_is x y e = cc

item_named : (plan : PlanOf) (number : ℕ) (host : HostNo) (ticket : Ticket) (item : AttemptOf) (delegate : Option (List ℕ)) (call : Call) (job : Job) (path : Option (List ℕ)) (name : Option (List ℕ))
    → option_map_or (λ (p : List ℕ). option_map (λ (n : List ℕ). job_with number host ticket item call n (unwrap_or delegate n) (connector_for plan.inventory host.0 delegate) p) name) path None ≡ Some job
    → (job.item ≡ item.item) × (job.attempt ≡ item.attempt)
item_named plan number host ticket item delegate call job None name e = cc
item_named plan number host ticket item delegate call job (Some path) None e = cc
item_named plan number host ticket item delegate call job (Some path) (Some name) e =
    let same = sym (some_is (job_with number host ticket item call name (unwrap_or delegate name) (connector_for plan.inventory host.0 delegate) path) job e) in
    (ap (λ (j : Job). j.item) same, ap (λ (j : Job). j.attempt) same)

item_called : (plan : PlanOf) (number : ℕ) (host : HostNo) (ticket : Ticket) (play : PlayOf) (p : ℕ) (item : AttemptOf) (delegate : Option (List ℕ)) (job : Job) (found : Option Call) → option_map_or (placed_job plan number host ticket play p item delegate) found None ≡ Some job
    → (job.item ≡ item.item) × (job.attempt ≡ item.attempt)
item_called plan number host ticket play p item delegate job None e = cc
item_called plan number host ticket play p item delegate job (Some call) e = item_named plan number host ticket item delegate call job (path_at play.tree p) (slice_get plan.inventory.hosts host.0) e

item_next : (plan : PlanOf) (number : ℕ) (host : HostNo) (ticket : Ticket) (play : PlayOf) (r : Running) (job : Job) (next : Option ℕ) → option_map_or (item_job plan number host ticket play r) next None ≡ Some job
    → (next ≡ Some job.item) × (attempt_next r.items ≡ job.attempt)
item_next plan number host ticket play r job None e = cc
item_next plan number host ticket play r job (Some n) e =
    let is = item_called plan number host ticket play r.place (item_attempt play r n) (delegate_in r.items n) job (call_in r.items n) e in
    (ap Some (sym is.0), sym is.1)

item_task : (plan : PlanOf) (number : ℕ) (host : HostNo) (ticket : Ticket) (play : PlayOf) (job : Job) (running : Option Running) → option_map_or (running_job plan number host ticket play) running None ≡ Some job
    → (option_map_or (λ (r : Running). next_item r.items) running None ≡ Some job.item) × (option_map_or (λ (r : Running). attempt_next r.items) running 1 ≡ job.attempt)
item_task plan number host ticket play job None e = cc
item_task plan number host ticket play job (Some r) e = item_next plan number host ticket play r job (next_item r.items) e

item_row : (plan : PlanOf) (number : ℕ) (host : HostNo) (ticket : Ticket) (play : PlayOf) (job : Job) (row : Option HostOf) → option_map_or (row_job plan number host ticket play) row None ≡ Some job
    → (option_map_or item_of row None ≡ Some job.item) × (option_map_or attempt_of row 1 ≡ job.attempt)
item_row plan number host ticket play job None e = cc
item_row plan number host ticket play job (Some row) e = item_task plan number host ticket play job row.running e

item_in : (plan : PlanOf) (s : State) (host : HostNo) (ticket : Ticket) (job : Job) (found : Option PlayOf) → option_map_or (job_in plan s host ticket) found None ≡ Some job → (item_at s host.0 ≡ Some job.item) × (attempt_at s host.0 ≡ job.attempt)
item_in plan s host ticket job None e = cc
item_in plan s host ticket job (Some play) e = item_row plan s.play host ticket play job (slice_get s.rows host.0) e

pub item_of_job : (plan : PlanOf) (s : State) (host : HostNo) (ticket : Ticket) (job : Job) → job_of plan s host ticket ≡ Some job → item_at s host.0 ≡ Some job.item
item_of_job plan s host ticket job e = (item_in plan s host ticket job (open_play plan s) e).0

pub attempt_of_job : (plan : PlanOf) (s : State) (host : HostNo) (ticket : Ticket) (job : Job) → job_of plan s host ticket ≡ Some job → attempt_at s host.0 ≡ job.attempt
attempt_of_job plan s host ticket job e = (item_in plan s host ticket job (open_play plan s) e).1

-- ---- a job is read off what its host runs
abbrev job_by : PlanOf → Bool → ℕ → Option (Option Running) → HostNo → Ticket → Option Job
job_by plan is_open number found h t =
    option_map_or (λ (play : PlayOf). option_map_or (λ (running : Option Running). option_map_or (running_job plan number h t play) running None) found None)
    (if is_open then slice_get plan.plays number else None) None

row_by : (plan : PlanOf) (number : ℕ) (h : HostNo) (t : Ticket) (play : PlayOf) (found : Option HostOf)
    → option_map_or (row_job plan number h t play) found None ≡ option_map_or (λ (running : Option Running). option_map_or (running_job plan number h t play) running None) (option_map (λ (row : HostOf). row.running) found) None
row_by plan number h t play None = refl
row_by plan number h t play (Some row) = refl

job_is : (plan : PlanOf) (s : State) (h : HostNo) (t : Ticket) → job_of plan s h t ≡ job_by plan s.is_open s.play (slice_get (tasks_of s.rows) h.0) h t
job_is plan s h t = by_play (if s.is_open then slice_get plan.plays s.play else None)
  where
    by_play : (found : Option PlayOf)
        → option_map_or (job_in plan s h t) found None
        ≡ option_map_or (λ (play : PlayOf). option_map_or (λ (running : Option Running). option_map_or (running_job plan s.play h t play) running None) (slice_get (tasks_of s.rows) h.0) None) found None
    by_play None = refl
    by_play (Some play) =
        row_by plan s.play h t play (slice_get s.rows h.0)
        ∙ ap (λ (found : Option (Option Running)). option_map_or (λ (running : Option Running). option_map_or (running_job plan s.play h t play) running None) found None) (sym (get_map (λ (row : HostOf). row.running) s.rows h.0))

-- where the host runs the same the job is the same
job_stays : (plan : PlanOf) (s new : State) (h : HostNo) (t : Ticket) → new.is_open ≡ s.is_open → new.play ≡ s.play → slice_get (tasks_of new.rows) h.0 ≡ slice_get (tasks_of s.rows) h.0 → job_of plan new h t ≡ job_of plan s h t
job_stays plan s new h t o p same =
    job_is plan new h t ∙ ap (λ (b : Bool). job_by plan b new.play (slice_get (tasks_of new.rows) h.0) h t) o ∙ ap (λ (n : ℕ). job_by plan s.is_open n (slice_get (tasks_of new.rows) h.0) h t) p
    ∙ ap (λ (found : Option (Option Running)). job_by plan s.is_open s.play found h t) same ∙ sym (job_is plan s h t)

-- a play is open where there is a job
pub open_of_job : (plan : PlanOf) (s : State) (h : HostNo) (t : Ticket) (x : Job) → job_of plan s h t ≡ Some x → s.is_open ≡ true
open_of_job plan s h t x e = by_open s.is_open refl e
  where
    by_open : (b : Bool) → s.is_open ≡ b → option_map_or (job_in plan s h t) (if b then slice_get plan.plays s.play else None) None ≡ Some x → s.is_open ≡ true
    by_open true is f = is
    by_open false is f = cc

-- ---- a job that is out, from event to event
pub stays_out : (plan : PlanOf) (pool : ℕ) (s : State) (e : Event) (x : Job) → possible plan s e ≡ true → InRun plan pool s → tells_of x.host.0 (happenings plan s e (after plan s e)) ≡ false → IsOut plan s x → IsOut plan (after plan s e) x
stays_out plan pool s e x may run none out =
    let o = open_of_job plan s x.host x.ticket x out.3 in
    let stays = stays_next plan (seen s) (seen (after plan s e)) (happenings plan s e (after plan s e)) x.host.0 out.0 x.ticket (step_tells plan pool s e may run) o out.1 out.2 none in (
      out.0,
      stays.0,
      out.2,
      job_stays plan s (after plan s e) x.host x.ticket (stays.1 ∙ sym o) stays.2 (stays.0 ∙ sym out.1) ∙ out.3,
    )

-- the job that is sent: what is true of every job that is made so is true of it
module _ (P : Job → Type 0) (number : ℕ) (h : HostNo) (t : Ticket) (every : (item : AttemptOf) (call : Call) (name target : List ℕ) (connector : List (List ℕ)) (path : List ℕ) → P (job_with number h t item call name target connector path)) (plan : PlanOf) (x : Job) where
  named_case : (item : AttemptOf) (delegate : Option (List ℕ)) (call : Call) (path name : Option (List ℕ))
      → option_map_or (λ (p : List ℕ). option_map (λ (n : List ℕ). job_with number h t item call n (unwrap_or delegate n) (connector_for plan.inventory h.0 delegate) p) name) path None ≡ Some x → P x
  named_case item delegate call None name e = cc
  named_case item delegate call (Some path) None e = cc
  named_case item delegate call (Some path) (Some name) e =
      subst P (some_is (job_with number h t item call name (unwrap_or delegate name) (connector_for plan.inventory h.0 delegate) path) x e) (every item call name (unwrap_or delegate name) (connector_for plan.inventory h.0 delegate) path)

  called_case : (play : PlayOf) (p : ℕ) (item : AttemptOf) (delegate : Option (List ℕ)) (found : Option Call) → option_map_or (placed_job plan number h t play p item delegate) found None ≡ Some x → P x
  called_case play p item delegate None e = cc
  called_case play p item delegate (Some call) e = named_case item delegate call (path_at play.tree p) (slice_get plan.inventory.hosts h.0) e

  next_case : (play : PlayOf) (r : Running) (next : Option ℕ) → option_map_or (item_job plan number h t play r) next None ≡ Some x → P x
  next_case play r None e = cc
  next_case play r (Some n) e = called_case play r.place (item_attempt play r n) (delegate_in r.items n) (call_in r.items n) e

  running_case : (play : PlayOf) (running : Option Running) → option_map_or (running_job plan number h t play) running None ≡ Some x → P x
  running_case play None e = cc
  running_case play (Some r) e = next_case play r (next_item r.items) e

  row_case : (play : PlayOf) (found : Option HostOf) → option_map_or (row_job plan number h t play) found None ≡ Some x → P x
  row_case play None e = cc
  row_case play (Some row) e = running_case play row.running e

play_case : (P : Job → Type 0) (plan : PlanOf) (s : State) (h : HostNo) (t : Ticket) (x : Job)
    → ((item : AttemptOf) (call : Call) (name target : List ℕ) (connector : List (List ℕ)) (path : List ℕ) → P (job_with s.play h t item call name target connector path))
    → (found : Option PlayOf) → option_map_or (job_in plan s h t) found None ≡ Some x → P x
play_case P plan s h t x every None e = cc
play_case P plan s h t x every (Some play) e = row_case P s.play h t every plan x play (slice_get s.rows h.0) e

pub job_host : (plan : PlanOf) (s : State) (h : HostNo) (t : Ticket) (x : Job) → job_of plan s h t ≡ Some x → (x.host ≡ h) × (x.ticket ≡ t)
job_host plan s h t x e = play_case (λ (y : Job). (y.host ≡ h) × (y.ticket ≡ t)) plan s h t x (λ item call name target connector path. (refl, refl)) (open_play plan s) e

-- is out then
sent_at : (plan : PlanOf) (s : State) (h : HostNo) (t : Ticket) (play : PlayOf) (row : HostOf) (r : Running) → slice_get s.rows h.0 ≡ Some row → row.running ≡ Some r
    → slice_get (tasks_of (sent_in s h.0 t play).rows) h.0 ≡ Some (Some (sent_running t r))
sent_at plan s h t play row r there runs =
    ap (λ (ts : List (Option Running)). slice_get ts h.0) (put_change (λ (x : HostOf). x.running) (sent t) s.rows h.0 row there)
    ∙ ap (λ (running : Option Running). slice_get (put (tasks_of s.rows) h.0 (option_map (sent_running t) running)) h.0) runs
    ∙ put_there (tasks_of s.rows) h.0 (Some (sent_running t r)) (Some r) (get_map (λ (x : HostOf). x.running) s.rows h.0 ∙ ap (option_map (λ (x : HostOf). x.running)) there ∙ ap (λ (running : Option Running). Some running) runs)

-- the job doesn't depend on whether it is out
same_job : (plan : PlanOf) (is_open : Bool) (number : ℕ) (h : HostNo) (t u : Ticket) (r : Running) → job_by plan is_open number (Some (Some (sent_running u r))) h t ≡ job_by plan is_open number (Some (Some r)) h t
same_job plan is_open number h t u r = by_play (if is_open then slice_get plan.plays number else None)
  where
    by_play : (found : Option PlayOf) → option_map_or (λ (play : PlayOf). running_job plan number h t play (sent_running u r)) found None ≡ option_map_or (λ (play : PlayOf). running_job plan number h t play r) found None
    by_play None = refl
    by_play (Some play) = refl

pub row_found : (rows : List HostOf) (h : ℕ) (r : Running) → slice_get (tasks_of rows) h ≡ Some (Some r) → (row : HostOf) × (slice_get rows h ≡ Some row) × (row.running ≡ Some r)
row_found [] h r e = cc
row_found (row ∷ rows) zero r e = (row, refl, let same : row.running ≡ Some r = cc in same)
row_found (row ∷ rows) (suc h) r e = row_found rows h r e

pub sent_out : (plan : PlanOf) (s : State) (h : HostNo) (item attempt : ℕ) (t : Ticket) (x : Job) (r : Running) (found : Option PlayOf) → open_play plan s ≡ found → s.is_open ≡ true → slice_get (tasks_of s.rows) h.0 ≡ Some (Some r)
    → job_of plan s h t ≡ Some x → option_map_or (may_send_in s h.0 item attempt t) found false ≡ true → IsOut plan (option_map_or (sent_in s h.0 t) found s) x
sent_out plan s h item attempt t x r None o opened there is may = cc
sent_out plan s h item attempt t x r (Some play) o opened there is may =
    let named = job_host plan s h t x is in
    let row = row_found s.rows h.0 r there in
    let new = sent_in s h.0 t play in
    let at : slice_get (tasks_of new.rows) h.0 ≡ Some (Some (sent_running t r)) = sent_at plan s h t play row.0 r row.1 row.2 in
    let job : job_of plan new h t ≡ Some x =
    job_is plan new h t ∙ ap (λ (found : Option (Option Running)). job_by plan s.is_open s.play found h t) at ∙ same_job plan s.is_open s.play h t t r
    ∙ ap (λ (found : Option (Option Running)). job_by plan s.is_open s.play found h t) (sym there) ∙ sym (job_is plan s h t) ∙ is in (
      sent_running t r,
      ap (λ (k : HostNo). slice_get (tasks_of new.rows) k.0) named.0 ∙ at,
      ap Some (sym named.1),
      ap (λ (k : HostNo). job_of plan new k x.ticket) named.0 ∙ ap (λ (u : Ticket). job_of plan new h u) named.1 ∙ job,
    )

-- ---- the report of a job that is out
is_self : (n : ℕ) → (n == n) ≡ true
is_self n = eq-eqb n n refl

awaited : (t : Ticket) (item attempt : ℕ) (q : Running) → q.out ≡ Some t → next_item q.items ≡ Some item → attempt_next q.items ≡ attempt → awaits_running t item attempt q ≡ true
awaited t item attempt q out next which =
    both (is_ticket t q.out) (is_next item attempt q) (ap (λ (o : Option Ticket). is_ticket t o) out ∙ is_self t.0)
    (both (is_item item q.items) (attempt_next q.items == attempt) (ap (λ (n : Option ℕ). option_map_or (λ (i : ℕ). i == item) n false) next ∙ is_self item) (ap (λ (n : ℕ). n == attempt) which ∙ is_self attempt))

ticket_out : (t : Ticket) (q : Running) → q.out ≡ Some t → is_ticket t q.out ≡ true
ticket_out t q out = ap (λ (o : Option Ticket). is_ticket t o) out ∙ is_self t.0

pub at_found : (test : HostOf → Bool) (rows : List HostOf) (h : ℕ) (row : HostOf) → slice_get rows h ≡ Some row → test row ≡ true → at_row test rows h ≡ true
at_found test [] h row e t = cc
at_found test (first ∷ rows) zero row e t = let same : first ≡ row = cc in ap test same ∙ t
at_found test (first ∷ rows) (suc h) row e t = at_found test rows h row e t

may_report : (s : State) (r : Report) (found : Option PlayOf) (play : PlayOf) → found ≡ Some play → at_row (awaits r.ticket r.item r.attempt) s.rows r.host.0 ≡ true → option_map_or (may_report_in s r) found false ≡ true
may_report s r None play e at = cc
may_report s r (Some p) play e at = at

play_there : (plan : PlanOf) (s : State) (h : HostNo) (t : Ticket) (x : Job) (found : Option PlayOf) → option_map_or (job_in plan s h t) found None ≡ Some x → (play : PlayOf) × (found ≡ Some play)
play_there plan s h t x None e = cc
play_there plan s h t x (Some play) e = (play, refl)

pub next_of_out : (plan : PlanOf) (s : State) (x : Job) → (out : IsOut plan s x) → next_item out.0.items ≡ Some x.item
next_of_out plan s x out =
    let row = row_found s.rows x.host.0 out.0 out.1 in
    let item = item_of_job plan s x.host x.ticket x out.3 in
    sym (ap (λ (running : Option Running). option_map_or (λ (q : Running). next_item q.items) running None) row.2) ∙ sym (ap (λ (found : Option HostOf). option_map_or item_of found None) row.1) ∙ item

pub attempt_of_out : (plan : PlanOf) (s : State) (x : Job) → (out : IsOut plan s x) → attempt_next out.0.items ≡ x.attempt
attempt_of_out plan s x out =
    let row = row_found s.rows x.host.0 out.0 out.1 in
    let attempt = attempt_of_job plan s x.host x.ticket x out.3 in
    sym (ap (λ (running : Option Running). option_map_or (λ (q : Running). attempt_next q.items) running 1) row.2) ∙ sym (ap (λ (found : Option HostOf). option_map_or attempt_of found 1) row.1) ∙ attempt

-- the row of its host waits for it
pub report_waits : (plan : PlanOf) (s : State) (x : Job) (r : Report) → IsOut plan s x → IsReportOf x r
    → (row : HostOf) × (slice_get s.rows r.host.0 ≡ Some row) × (has_ticket r.ticket row ≡ true) × (awaits r.ticket r.item r.attempt row ≡ true)
report_waits plan s x r out its =
    let there : slice_get (tasks_of s.rows) r.host.0 ≡ Some (Some out.0) = ap (λ (h : HostNo). slice_get (tasks_of s.rows) h.0) its.1 ∙ out.1 in
    let row = row_found s.rows r.host.0 out.0 there in
    let ticket : out.0.out ≡ Some r.ticket = out.2 ∙ ap Some (sym its.0) in
    let next : next_item out.0.items ≡ Some r.item = next_of_out plan s x out ∙ ap Some (sym its.2) in
    let which : attempt_next out.0.items ≡ r.attempt = attempt_of_out plan s x out ∙ sym its.3 in (
      row.0,
      row.1,
      ap (λ (running : Option Running). option_map_or (λ (q : Running). is_ticket r.ticket q.out) running false) row.2 ∙ ticket_out r.ticket out.0 ticket,
      ap (λ (running : Option Running). option_map_or (awaits_running r.ticket r.item r.attempt) running false) row.2 ∙ awaited r.ticket r.item r.attempt out.0 ticket next which,
    )

pub report_may : (plan : PlanOf) (s : State) (x : Job) (r : Report) → IsOut plan s x → IsReportOf x r → possible plan s (Reported r) ≡ true
report_may plan s x r out its =
    let row = report_waits plan s x r out its in
    let play = play_there plan s x.host x.ticket x (open_play plan s) out.3 in
    may_report s r (open_play plan s) play.0 play.1 (at_found (awaits r.ticket r.item r.attempt) s.rows r.host.0 row.0 row.1 row.3)

-- ---- all of it
host_apart : (r : Report) (h : HostNo) → is_report_of h (Reported r) ≡ false → (h.0 ≡ r.host.0 → ⊥)
host_apart r h e same = let wrong : true ≡ false = sym (eq-eqb r.host.0 h.0 (sym same)) ∙ e in cc

-- another event tells nothing of its host's jobs
tells_none : (plan : PlanOf) (s : State) (h : HostNo) (e : Event) → possible plan s e ≡ true → is_report_of h e ≡ false → tells_of h.0 (happenings plan s e (after plan s e)) ≡ false
tells_none plan s h Open may e = (silent_says plan s (after plan s Open) Open refl).silent refl h.0
tells_none plan s h (Start k) may e = (silent_says plan s (after plan s (Start k)) (Start k) refl).silent refl h.0
tells_none plan s h (Send k item attempt ticket) may e = (send_says plan s (after plan s (Send k item attempt ticket)) k item attempt ticket may).silent refl h.0
tells_none plan s h (Reported r) may e = report_tells plan s (after plan s (Reported r)) r h.0 (host_apart r h e)
tells_none plan s h Turn may e = (silent_says plan s (after plan s Turn) Turn refl).silent refl h.0
tells_none plan s h Close may e = (silent_says plan s (after plan s Close) Close refl).silent refl h.0
tells_none plan s h Stop may e = (silent_says plan s (after plan s Stop) Stop refl).silent refl h.0
tells_none plan s h (Forks n) may e = (silent_says plan s (after plan s (Forks n)) (Forks n) refl).silent refl h.0

pub goes_out : (plan : PlanOf) (s : State) (h : HostNo) (item attempt : ℕ) (ticket : Ticket) (x : Job) → possible plan s (Send h item attempt ticket) ≡ true → job_of plan s h ticket ≡ Some x → IsOut plan (after plan s (Send h item attempt ticket)) x
goes_out plan s h item attempt ticket x may is =
    let at = sending plan s h item attempt ticket (open_play plan s) refl may in
    sent_out plan s h item attempt ticket x at.0 (open_play plan s) refl (open_of_job plan s h ticket x is) at.1 is may

pub fits_workers : (plan : PlanOf) (pool : ℕ) (trail : List Event) (s : State) → plan.forks ≤ pool → IsRun plan pool trail s → FitsWorkers plan pool s
fits_workers plan pool trail s forks run =
    let at = in_run plan pool trail s forks run in
    record {
      forks = at.room;
      running = at.most;
      out = outs_most (tasks s);
      room = λ h item attempt ticket may. room_to_send plan pool s h item attempt ticket may at;
      goes = goes_out plan s;
      stays = λ x e out may other. stays_out plan pool s e x may at (tells_none plan s x.host e may other) out;
      comes = report_may plan s;
    }
