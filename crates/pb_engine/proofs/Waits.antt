-- Jobs that are out in a run.
use Rattle.std.proofs.Common.{◌≡◌, ℕ, zero, suc, ◌<◌, Bool, true, false, ◌&&◌, ◌||◌, not, List, [], ◌∷◌, refl, ◌∙◌, ap, arith}
use Rattle.std.specs.Prelude.{◌==◌, Option, Some, None, slice_get, is_some, option_map, if◌then◌else◌}
use Rattle.std.specs.List.{list_any}
use Rattle.std.specs.Option.{option_map_or}
use Rattle.std.proofs.lemmas.Bool.{lt-ltb, eqb-true}
use Rattle.pb_ids.specs.declared.numbers.HostNo.{HostNo}
use Rattle.pb_ids.specs.declared.numbers.Ticket.{Ticket}
use Rattle.pb_outcome.specs.declared.job.Job.{Job}
use Rattle.pb_outcome.specs.declared.job.Report.{Report}
use Rattle.pb_outcome.specs.Items.{next_item}
use Rattle.pb_state.specs.declared.event.Event.{Event}
use Rattle.pb_state.specs.declared.event.Event.TheVariants.{Open, Start, Send, Report as Reported, Turn, Close, Stop, Forks}
use Rattle.pb_host.specs.declared.host.Running.{Running}
use Rattle.pb_plan.specs.Plan.{PlayOf, PlanOf}
use Rattle.pb_host.specs.Attempts.{attempt_next}
use Rattle.pb_host.specs.Host.{HostOf}
use Rattle.pb_state.specs.State.{State}
use Rattle.pb_host.specs.Runs.{awaits, awaits_running, has_ticket, is_ticket, is_running, item_of, attempt_of, may_send_item, sends_running}
use Rattle.pb_hosts.specs.Hosts.{at_row}
use Rattle.pb_state.specs.Machine.{possible, item_at, attempt_at, open_play, may_report_in, may_send_in}
use Rattle.pb_state.specs.Jobs.{job_of}
use Rattle.pb_hosts.specs.Oldest.{oldest_out}
use Rattle.pb_state.specs.Run.{is_move, IsRun}
use Rattle.pb_hosts.proofs.OldestOut.{oldest_is_out}
use Rattle.pb_laws.specs.JobsOut.{IsOut, IsReportOf}
use Rattle.pb_laws.proofs.JobsStay.{at_found, report_waits}
use Rattle.pb_state.proofs.HasJob.{at_runs, placed_row, row_runs, runs_job}
use Rattle.pb_state.proofs.Held.{IsHeld, IsHeldTask, IsOutBelow, AreHeld, places_in, held_run}
use Rattle.pb_state.proofs.Quiet.{next_alone}
use Rattle.pb_engine.specs.declared.refusal.Refusal.TheVariants.{UnknownTicket, AlreadyReported, WrongItem}
use Rattle.pb_engine.specs.declared.engine.Next.TheVariants.{Sent}
use Rattle.pb_engine.specs.Refusals.{refusal_of, is_sent, is_waited_for, fits}
use Rattle.pb_engine.specs.Choice.{answer_of}

or_elim : {C : Type 0} (a b : Bool) → (a || b) ≡ true → (a ≡ true → C) → (b ≡ true → C) → C
or_elim true b e f g = f refl
or_elim false b e f g = g e

and_left : (a b : Bool) → (a && b) ≡ true → a ≡ true
and_left true b e = refl
and_left false b e = cc

and_right : (a b : Bool) → (a && b) ≡ true → b ≡ true
and_right true b e = e
and_right false b e = cc

not_false : (b : Bool) → not b ≡ true → b ≡ false
not_false true e = cc
not_false false e = refl

-- a ticket that is out is below the sends
ticket_below : (sends : ℕ) (ticket : Ticket) (out : Option Ticket) → is_ticket ticket out ≡ true → IsOutBelow sends out → ticket.0 < sends
ticket_below sends ticket None e below = cc
ticket_below sends ticket (Some t) e below = let same = eqb-true t.0 ticket.0 e in omega arith

task_below : (size sends : ℕ) (ticket : Ticket) (running : Option Running) → option_map_or (λ (r : Running). is_ticket ticket r.out) running false ≡ true → IsHeldTask size sends running → ticket.0 < sends
task_below size sends ticket None e held = cc
task_below size sends ticket (Some r) e held = ticket_below sends ticket r.out e held.1

out_below : (size sends : ℕ) (ticket : Ticket) (rows : List HostOf) → list_any (has_ticket ticket) rows ≡ true → AreHeld size sends rows → ticket.0 < sends
out_below size sends ticket [] e held = cc
out_below size sends ticket (row ∷ rows) e held =
    or_elim (has_ticket ticket row) (list_any (has_ticket ticket) rows) e
    (λ t. task_below size sends ticket row.running t held.0)
    (λ t. out_below size sends ticket rows t held.1)

pub waits_sent : (plan : PlanOf) (s : State) (ticket : Ticket) → IsHeld plan s → list_any (has_ticket ticket) s.rows ≡ true → ticket.0 < s.sends
waits_sent plan s ticket held e = out_below (places_in (open_play plan s)) s.sends ticket s.rows e held.tasks

-- a report of a job that is out for another host, item or attempt is refused as such
wrong_of : (sent waits fit : Bool) → sent ≡ true → waits ≡ true → fit ≡ false → (if not sent then Some UnknownTicket else if not waits then Some AlreadyReported else if not fit then Some WrongItem else None) ≡ Some WrongItem
wrong_of true true false a b c = refl
wrong_of true true true a b c = cc
wrong_of true false fit a b c = cc
wrong_of false waits fit a b c = cc

pub wrong_item : (plan : PlanOf) (s : State) (r : Report) → IsHeld plan s → is_waited_for s r ≡ true → fits s r ≡ false → refusal_of s r ≡ Some WrongItem
wrong_item plan s r held w f = wrong_of (is_sent s r) (is_waited_for s r) (fits s r) (lt-ltb r.ticket.0 s.sends (waits_sent plan s r.ticket held w)) w f

-- a report that isn't refused is possible
taken_of : (sent waits fit : Bool) → (if not sent then Some UnknownTicket else if not waits then Some AlreadyReported else if not fit then Some WrongItem else None) ≡ None → fit ≡ true
taken_of true true true e = refl
taken_of true true false e = cc
taken_of true false fit e = cc
taken_of false waits fit e = cc

fits_runs : (s : State) (r : Report) → fits s r ≡ true → at_row is_running s.rows r.host.0 ≡ true
fits_runs s r e = at_runs (awaits r.ticket r.item r.attempt) (λ row f. row_runs (awaits_running r.ticket r.item r.attempt) row.running f) s.rows r.host.0 e

may_report : (s : State) (r : Report) (found : Option PlayOf) → AreHeld (places_in found) s.sends s.rows → fits s r ≡ true → option_map_or (may_report_in s r) found false ≡ true
may_report s r None held e = absurd (let some = placed_row 0 s.sends s.rows r.host.0 (fits_runs s r e) held in omega (arith, some))
may_report s r (Some play) held e = e

pub report_possible : (plan : PlanOf) (s : State) (r : Report) → IsHeld plan s → refusal_of s r ≡ None → option_map_or (may_report_in s r) (open_play plan s) false ≡ true
report_possible plan s r held e = may_report s r (open_play plan s) held.tasks (taken_of (is_sent s r) (is_waited_for s r) (fits s r) e)

send_runs : (s : State) (h item attempt : ℕ) (ticket : Ticket) (found : Option PlayOf) → option_map_or (may_send_in s h item attempt ticket) found false ≡ true → at_row is_running s.rows h ≡ true
send_runs s h item attempt ticket None e = cc
send_runs s h item attempt ticket (Some play) e = at_runs (may_send_item item attempt) (λ row f. row_runs (sends_running item attempt) row.running f) s.rows h (and_right (not s.stopped && (ticket.0 == s.sends)) _ e)

-- a job that can go out is there
pub send_job : (plan : PlanOf) (s : State) (host : HostNo) (item attempt : ℕ) (ticket : Ticket) → IsHeld plan s → option_map_or (may_send_in s host.0 item attempt ticket) (open_play plan s) false ≡ true → is_some (job_of plan s host ticket) ≡ true
send_job plan s host item attempt ticket held e = runs_job plan s host ticket held (send_runs s host.0 item attempt ticket (open_play plan s) e)

-- a test that holds of one row holds of some
any_at : (test : HostOf → Bool) (rows : List HostOf) (h : ℕ) → at_row test rows h ≡ true → list_any test rows ≡ true
any_at test [] h e = cc
any_at test (row ∷ rows) zero e = rw e refl
any_at test (row ∷ rows) (suc h) e = rw (any_at test rows h e) (or_true (test row))
  where
    or_true : (b : Bool) → (b || true) ≡ true
    or_true true = refl
    or_true false = refl

has_runs : (ticket : Ticket) (running : Option Running) → option_map_or (λ (r : Running). is_ticket ticket r.out) running false ≡ true → is_some running ≡ true
has_runs ticket None e = cc
has_runs ticket (Some r) e = refl

-- which has its job
pub oldest_job : (plan : PlanOf) (s : State) (p : HostNo × Ticket) → IsHeld plan s → oldest_out s.rows ≡ Some p → is_some (job_of plan s p.0 p.1) ≡ true
oldest_job plan s p held e = runs_job plan s p.0 p.1 held (at_runs (has_ticket p.1) (λ row f. has_runs p.1 row.running f) s.rows p.0.0 (oldest_is_out s.rows p e))

all_true : (sent waits fit : Bool) → sent ≡ true → waits ≡ true → fit ≡ true → (if not sent then Some UnknownTicket else if not waits then Some AlreadyReported else if not fit then Some WrongItem else None) ≡ None
all_true true true true a b c = refl
all_true true true false a b c = cc
all_true true false fit a b c = cc
all_true false waits fit a b c = cc

awaits_its : (ticket : Ticket) (item attempt : ℕ) (running : Option Running) → option_map_or (λ (r : Running). next_item r.items) running None ≡ Some item → option_map_or (λ (r : Running). attempt_next r.items) running 1 ≡ attempt
    → option_map_or (awaits_running ticket item attempt) running false ≡ option_map_or (λ (r : Running). is_ticket ticket r.out) running false
awaits_its ticket item attempt None e f = refl
awaits_its ticket item attempt (Some r) e f = next_alone (is_ticket ticket r.out) (next_item r.items) (attempt_next r.items) item attempt e f

awaits_at : (ticket : Ticket) (item attempt : ℕ) (found : Option HostOf) → option_map_or item_of found None ≡ Some item → option_map_or attempt_of found 1 ≡ attempt → option_map_or (awaits ticket item attempt) found false ≡ option_map_or (has_ticket ticket) found false
awaits_at ticket item attempt None e f = refl
awaits_at ticket item attempt (Some row) e f = awaits_its ticket item attempt row.running e f

-- and whose report is taken, if it is of the host's next attempt at its next item
pub oldest_taken : (plan : PlanOf) (s : State) (r : Report) → IsHeld plan s → oldest_out s.rows ≡ Some (r.host, r.ticket) → item_at s r.host.0 ≡ Some r.item → attempt_at s r.host.0 ≡ r.attempt → refusal_of s r ≡ None
oldest_taken plan s r held e next tried =
    let out = oldest_is_out s.rows (r.host, r.ticket) e in
    let waits = any_at (has_ticket r.ticket) s.rows r.host.0 out in
    all_true (is_sent s r) (is_waited_for s r) (fits s r) (lt-ltb r.ticket.0 s.sends (waits_sent plan s r.ticket held waits)) waits (awaits_at r.ticket r.item r.attempt (slice_get s.rows r.host.0) next tried ∙ out)

-- any job that is out is waited for
out_at : (plan : PlanOf) (s : State) (x : Job) (r : Report) → IsHeld plan s → (row : HostOf) → slice_get s.rows r.host.0 ≡ Some row → has_ticket r.ticket row ≡ true → awaits r.ticket r.item r.attempt row ≡ true → refusal_of s r ≡ None
out_at plan s x r held row there ticket awaited =
    let waits = any_at (has_ticket r.ticket) s.rows r.host.0 (at_found (has_ticket r.ticket) s.rows r.host.0 row there ticket) in
    all_true (is_sent s r) (is_waited_for s r) (fits s r) (lt-ltb r.ticket.0 s.sends (waits_sent plan s r.ticket held waits)) waits (at_found (awaits r.ticket r.item r.attempt) s.rows r.host.0 row there awaited)

-- of a run
pub out_awaited : (plan : PlanOf) (pool : ℕ) (trail : List Event) (s : State) (x : Job) (r : Report) → IsRun plan pool trail s → IsOut plan s x → IsReportOf x r → refusal_of s r ≡ None
out_awaited plan pool trail s x r run out its =
    let row = report_waits plan s x r out its in
    out_at plan s x r (held_run plan pool trail s run) row.0 row.1 row.2 row.3

pub report_in_run : (plan : PlanOf) (pool : ℕ) (trail : List Event) (s : State) (r : Report) → IsRun plan pool trail s → refusal_of s r ≡ None → option_map_or (may_report_in s r) (open_play plan s) false ≡ true
report_in_run plan pool trail s r run e = report_possible plan s r (held_run plan pool trail s run) e

pub wrong_in_run : (plan : PlanOf) (pool : ℕ) (trail : List Event) (s : State) (r : Report) → IsRun plan pool trail s → is_waited_for s r ≡ true → fits s r ≡ false → refusal_of s r ≡ Some WrongItem
wrong_in_run plan pool trail s r run w f = wrong_item plan s r (held_run plan pool trail s run) w f

sent_some : (job : Option Job) → is_some job ≡ true → is_some (option_map Sent job) ≡ true
sent_some None e = cc
sent_some (Some job) e = refl

answered : (plan : PlanOf) (s : State) (e : Event) → IsHeld plan s → possible plan s e ≡ true → is_move e ≡ true → is_some (answer_of plan s e) ≡ true
answered plan s Open held may m = refl
answered plan s (Start h) held may m = refl
answered plan s (Send h item attempt ticket) held may m = sent_some (job_of plan s h ticket) (send_job plan s h item attempt ticket held may)
answered plan s (Reported r) held may m = cc
answered plan s Turn held may m = refl
answered plan s Close held may m = refl
answered plan s Stop held may m = cc
answered plan s (Forks n) held may m = cc

-- an event that the machine takes by itself has an answer
pub answered_in_run : (plan : PlanOf) (pool : ℕ) (trail : List Event) (s : State) (e : Event) → IsRun plan pool trail s → possible plan s e ≡ true → is_move e ≡ true → answer_of plan s e ≡ None → ⊥
answered_in_run plan pool trail s e run may m none = let some = answered plan s e (held_run plan pool trail s run) may m in let no : is_some (answer_of plan s e) ≡ false = ap is_some none in cc

pub oldest_in_run : (plan : PlanOf) (pool : ℕ) (trail : List Event) (s : State) (r : Report) → IsRun plan pool trail s → oldest_out s.rows ≡ Some (r.host, r.ticket) → item_at s r.host.0 ≡ Some r.item → attempt_at s r.host.0 ≡ r.attempt → refusal_of s r ≡ None
oldest_in_run plan pool trail s r run e next tried = oldest_taken plan s r (held_run plan pool trail s run) e next tried

pub job_in_run : (plan : PlanOf) (pool : ℕ) (trail : List Event) (s : State) (p : HostNo × Ticket) → IsRun plan pool trail s → oldest_out s.rows ≡ Some p → job_of plan s p.0 p.1 ≡ None → ⊥
job_in_run plan pool trail s p run e none = let some = oldest_job plan s p (held_run plan pool trail s run) e in let no : is_some (job_of plan s p.0 p.1) ≡ false = ap is_some none in cc
