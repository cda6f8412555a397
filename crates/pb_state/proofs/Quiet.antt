-- A state in which no host is ready, and no turn, close or open is possible, is quiet; and finished, if no job is out.
use Rattle.std.proofs.Common.{◌≡◌, ℕ, Bool, true, false, ◌&&◌, ◌||◌, not, List, [], ◌∷◌, length, replicate, refl, sym, ◌∙◌, ap, zero, suc, inl, inr}
use Rattle.std.specs.Prelude.{◌==◌, Option, Some, None, slice_get, is_some, is_none}
use Rattle.std.specs.List.{list_any}
use Rattle.std.specs.Option.{option_map_or}
use Rattle.std.proofs.lemmas.List.{length-replicate}
use Rattle.std.proofs.lemmas.Bool.{eq-eqb}
use Rattle.pb_ids.specs.declared.numbers.Ticket.{Ticket}
use Rattle.pb_planes.specs.Set.{has_some}
use Rattle.pb_state.specs.declared.event.Event.{Event}
use Rattle.pb_state.specs.declared.event.Event.TheVariants.{Open, Start, Send, Report as Reported, Turn, Close, Stop, Forks}
use Rattle.pb_host.specs.declared.host.Running.{Running}
use Rattle.pb_outcome.specs.declared.job.Report.{Report}
use Rattle.pb_outcome.specs.Items.{next_item}
use Rattle.pb_plan.specs.Plan.{PlayOf, PlanOf}
use Rattle.pb_host.specs.Attempts.{attempt_next}
use Rattle.pb_host.specs.Host.{HostOf}
use Rattle.pb_state.specs.State.{State}
use Rattle.pb_host.specs.Runs.{may_send_item, has_send, sends_running, is_ticket, is_next, is_out, awaits, awaits_running, item_of, attempt_of}
use Rattle.pb_hosts.specs.Hosts.{at_row}
use Rattle.pb_state.specs.Machine.{possible, ready, ready_in, may_open, may_start_in, may_send_in, may_report_in, may_turn_in, may_close_in, item_at, attempt_at, open_play}
use Rattle.pb_state.specs.Run.{is_command, IsQuiet, IsFinished}
use Rattle.pb_host.proofs.InOrder.{goes_on_at}
use Rattle.pb_state.proofs.Readies.{none_start, none_sends_at, ready_either, length_ready_in}
use Rattle.pb_state.proofs.Stands.{both, none_starts}
use Rattle.pb_state.specs.Over.{IsUnfinished, AreUnfinished, IsGoing}

or_left : (a b : Bool) → (a || b) ≡ false → a ≡ false
or_left true b e = e
or_left false b e = refl

or_right : (a b : Bool) → (a || b) ≡ false → b ≡ false
or_right true b e = cc
or_right false b e = e

and_left : (a b : Bool) → (a && b) ≡ true → a ≡ true
and_left true b e = refl
and_left false b e = cc

and_right : (a b : Bool) → (a && b) ≡ true → b ≡ true
and_right true b e = e
and_right false b e = cc

and_false : (a : Bool) → (a && false) ≡ false
and_false true = refl
and_false false = refl

and_true : (a : Bool) → (a && true) ≡ a
and_true true = refl
and_true false = refl

and_none : (a b : Bool) → a ≡ false → (a && b) ≡ false
and_none true b e = cc
and_none false b e = refl

-- a test that implies one that a row fails
none_at : (p q : HostOf → Bool) → ((row : HostOf) → q row ≡ false → p row ≡ false) → (rows : List HostOf) (h : ℕ) → at_row q rows h ≡ false → at_row p rows h ≡ false
none_at p q imp [] h e = refl
none_at p q imp (row ∷ rows) zero e = imp row e
none_at p q imp (row ∷ rows) (suc h) e = none_at p q imp rows h e

none_starts_in : (s : State) (h : ℕ) (found : Option PlayOf) → has_some (option_map_or (ready_in s) found (replicate (length s.rows) false)) ≡ false → option_map_or (may_start_in s h) found false ≡ false
none_starts_in s h None e = refl
none_starts_in s h (Some play) e = none_starts s play h (none_start s play e)

unsent : (item attempt : ℕ) (running : Option Running) → option_map_or (λ (r : Running). is_none r.out) running false ≡ false → option_map_or (sends_running item attempt) running false ≡ false
unsent item attempt None e = refl
unsent item attempt (Some r) e = and_none (is_none r.out) (is_next item attempt r) e

none_sends : (s : State) (play : PlayOf) (h item attempt : ℕ) (stopped : Bool) → s.stopped ≡ stopped → has_some (ready_in s play) ≡ false → (not stopped && at_row (may_send_item item attempt) s.rows h) ≡ false
none_sends s play h item attempt true st e = refl
none_sends s play h item attempt false st e = none_at (may_send_item item attempt) has_send (λ row q. unsent item attempt row.running q) s.rows h (none_sends_at s play h st e)

no_send : (a b c : Bool) → (a && c) ≡ false → (a && b && c) ≡ false
no_send false b c e = refl
no_send true true c e = e
no_send true false c e = refl

none_sends_in : (s : State) (h item attempt : ℕ) (ticket : Ticket) (found : Option PlayOf) → has_some (option_map_or (ready_in s) found (replicate (length s.rows) false)) ≡ false → option_map_or (may_send_in s h item attempt ticket) found false ≡ false
none_sends_in s h item attempt ticket None e = refl
none_sends_in s h item attempt ticket (Some play) e = no_send (not s.stopped) (ticket.0 == s.sends) (at_row (may_send_item item attempt) s.rows h) (none_sends s play h item attempt s.stopped refl e)

pub quiet : (plan : PlanOf) (s : State) → has_some (ready plan s) ≡ false → option_map_or (may_turn_in s) (open_play plan s) false ≡ false → option_map_or (may_close_in s) (open_play plan s) false ≡ false → may_open plan s ≡ false → IsQuiet plan s
quiet plan s r t c o Open m = o
quiet plan s r t c o (Start h) m = none_starts_in s h.0 (open_play plan s) r
quiet plan s r t c o (Send h item attempt ticket) m = none_sends_in s h.0 item attempt ticket (open_play plan s) r
quiet plan s r t c o (Reported report) m = cc
quiet plan s r t c o Turn m = t
quiet plan s r t c o Close m = c
quiet plan s r t c o Stop m = cc
quiet plan s r t c o (Forks n) m = cc

-- where no job is out, no report is waited for
any_none : (p q : HostOf → Bool) → ((row : HostOf) → q row ≡ false → p row ≡ false) → (rows : List HostOf) (h : ℕ) → list_any q rows ≡ false → at_row p rows h ≡ false
any_none p q imp [] h e = refl
any_none p q imp (row ∷ rows) zero e = imp row (or_left (q row) (list_any q rows) e)
any_none p q imp (row ∷ rows) (suc h) e = any_none p q imp rows h (or_right (q row) (list_any q rows) e)

no_ticket : (ticket : Ticket) (out : Option Ticket) → is_some out ≡ false → is_ticket ticket out ≡ false
no_ticket ticket None e = refl
no_ticket ticket (Some t) e = cc

none_awaits : (ticket : Ticket) (item attempt : ℕ) (running : Option Running) → option_map_or (λ (r : Running). is_some r.out) running false ≡ false → option_map_or (awaits_running ticket item attempt) running false ≡ false
none_awaits ticket item attempt None e = refl
none_awaits ticket item attempt (Some r) e = and_none (is_ticket ticket r.out) (is_next item attempt r) (no_ticket ticket r.out e)

none_reports : (s : State) (r : Report) (found : Option PlayOf) → list_any is_out s.rows ≡ false → option_map_or (may_report_in s r) found false ≡ false
none_reports s r None e = refl
none_reports s r (Some play) e = any_none (awaits r.ticket r.item r.attempt) is_out (λ row e. none_awaits r.ticket r.item r.attempt row.running e) s.rows r.host.0 e

pub over_at : (plan : PlanOf) (s : State) → IsQuiet plan s → list_any is_out s.rows ≡ false → (e : Event) → is_command e ≡ false → possible plan s e ≡ false
over_at plan s q out Open m = q Open refl
over_at plan s q out (Start h) m = q (Start h) refl
over_at plan s q out (Send h item attempt ticket) m = q (Send h item attempt ticket) refl
over_at plan s q out Turn m = q Turn refl
over_at plan s q out Close m = q Close refl
over_at plan s q out (Reported r) m = none_reports s r (open_play plan s) out
over_at plan s q out Stop m = cc
over_at plan s q out (Forks n) m = cc

pub finished_now : (plan : PlanOf) (s : State) → has_some (ready plan s) ≡ false → option_map_or (may_turn_in s) (open_play plan s) false ≡ false → option_map_or (may_close_in s) (open_play plan s) false ≡ false → may_open plan s ≡ false → list_any is_out s.rows ≡ false → IsFinished plan s
finished_now plan s r t c o out = record { over = over_at plan s (quiet plan s r t c o) out; none_out = out }

-- a host that is ready has a send, or a start
none_of : (n h : ℕ) → slice_get (replicate n false) h ≡ Some true → false ≡ true
none_of zero h e = cc
none_of (suc n) zero e = cc
none_of (suc n) (suc h) e = none_of n h e

-- the next attempt at the next item is the one that is sent, or that is out
pub next_alone : (test : Bool) (next : Option ℕ) (comes item attempt : ℕ) → next ≡ Some item → comes ≡ attempt → (test && (option_map_or (λ n. n == item) next false && (comes == attempt))) ≡ test
next_alone test None comes item attempt e f = cc
next_alone test (Some n) comes item attempt e f = let same : n ≡ item = cc in rw (eq-eqb n item same, eq-eqb comes attempt f) (and_true test)

sends_its : (item attempt : ℕ) (running : Option Running) → option_map_or (λ (r : Running). next_item r.items) running None ≡ Some item → option_map_or (λ (r : Running). attempt_next r.items) running 1 ≡ attempt
    → option_map_or (sends_running item attempt) running false ≡ option_map_or (λ (r : Running). is_none r.out) running false
sends_its item attempt None e f = refl
sends_its item attempt (Some r) e f = next_alone (is_none r.out) (next_item r.items) (attempt_next r.items) item attempt e f

sends_at : (item attempt : ℕ) (found : Option HostOf) → option_map_or item_of found None ≡ Some item → option_map_or attempt_of found 1 ≡ attempt → option_map_or (may_send_item item attempt) found false ≡ option_map_or has_send found false
sends_at item attempt None e f = refl
sends_at item attempt (Some row) e f = sends_its item attempt row.running e f

-- where there is none, no task runs
no_item : (running : Option Running) → IsUnfinished running → option_map_or (λ (r : Running). next_item r.items) running None ≡ None → option_map_or (λ (r : Running). is_none r.out) running false ≡ false
no_item None going e = refl
no_item (Some r) going e = let next = goes_on_at r.items going in absurd (let both : Some next.0 ≡ None = sym next.1 ∙ e in cc)

pub no_item_at : (rows : List HostOf) (h : ℕ) → AreUnfinished rows → option_map_or item_of (slice_get rows h) None ≡ None → at_row has_send rows h ≡ false
no_item_at [] h going e = refl
no_item_at (row ∷ rows) zero going e = no_item row.running going.0 e
no_item_at (row ∷ rows) (suc h) going e = no_item_at rows h going.1 e

pub sends_now : (s : State) (play : PlayOf) (h item attempt : ℕ) (ticket : Ticket) → ticket.0 ≡ s.sends → item_at s h ≡ Some item → attempt_at s h ≡ attempt → s.stopped ≡ false → at_row has_send s.rows h ≡ true → may_send_in s h item attempt ticket play ≡ true
sends_now s play h item attempt ticket t is next st e =
    both (not s.stopped && (ticket.0 == s.sends)) (at_row (may_send_item item attempt) s.rows h) (both (not s.stopped) (ticket.0 == s.sends) (ap not st) (eq-eqb ticket.0 s.sends t)) (sends_at item attempt (slice_get s.rows h) is next ∙ e)

start_in : (s : State) (play : PlayOf) (h item attempt : ℕ) (ticket : Ticket) → ticket.0 ≡ s.sends → item_at s h ≡ Some item → attempt_at s h ≡ attempt → slice_get (ready_in s play) h ≡ Some true → may_send_in s h item attempt ticket play ≡ false → may_start_in s h play ≡ true
start_in s play h item attempt ticket t is next e f =
    elim (ready_either s play h e) [
      | inl may ↦ may
      | inr send ↦ absurd (let both_ways : true ≡ false = sym (sends_now s play h item attempt ticket t is next send.0 send.1) ∙ f in cc)
    ]

start_idle : (s : State) (play : PlayOf) (h : ℕ) → slice_get (ready_in s play) h ≡ Some true → at_row has_send s.rows h ≡ false → may_start_in s h play ≡ true
start_idle s play h e f =
    elim (ready_either s play h e) [
      | inl may ↦ may
      | inr send ↦ absurd (let both_ways : true ≡ false = sym send.1 ∙ f in cc)
    ]

ready_there : (s : State) (h item attempt : ℕ) (ticket : Ticket) (found : Option PlayOf) → ticket.0 ≡ s.sends → item_at s h ≡ Some item → attempt_at s h ≡ attempt → slice_get (option_map_or (ready_in s) found (replicate (length s.rows) false)) h ≡ Some true → option_map_or (may_send_in s h item attempt ticket) found false ≡ false → option_map_or (may_start_in s h) found false ≡ true
ready_there s h item attempt ticket None t is next e f = none_of (length s.rows) h e
ready_there s h item attempt ticket (Some play) t is next e f = start_in s play h item attempt ticket t is next e f

idle_there : (s : State) (h : ℕ) (found : Option PlayOf) → IsGoing s → item_at s h ≡ None → slice_get (option_map_or (ready_in s) found (replicate (length s.rows) false)) h ≡ Some true → option_map_or (may_start_in s h) found false ≡ true
idle_there s h None going is e = none_of (length s.rows) h e
idle_there s h (Some play) going is e = start_idle s play h e (no_item_at s.rows h going.tasks is)

-- a host that is ready and has no send may start
pub ready_starts : (plan : PlanOf) (s : State) (h item attempt : ℕ) (ticket : Ticket) → ticket.0 ≡ s.sends → item_at s h ≡ Some item → attempt_at s h ≡ attempt → slice_get (ready plan s) h ≡ Some true → option_map_or (may_send_in s h item attempt ticket) (open_play plan s) false ≡ false → option_map_or (may_start_in s h) (open_play plan s) false ≡ true
ready_starts plan s h item attempt ticket t is next e f = ready_there s h item attempt ticket (open_play plan s) t is next e f

pub idle_starts : (plan : PlanOf) (s : State) (h : ℕ) → IsGoing s → item_at s h ≡ None → slice_get (ready plan s) h ≡ Some true → option_map_or (may_start_in s h) (open_play plan s) false ≡ true
idle_starts plan s h going is e = idle_there s h (open_play plan s) going is e

length_of : (s : State) (found : Option PlayOf) → length (option_map_or (ready_in s) found (replicate (length s.rows) false)) ≡ length s.rows
length_of s None = length-replicate (length s.rows) false
length_of s (Some play) = length_ready_in s play

pub length_ready : (plan : PlanOf) (s : State) → length (ready plan s) ≡ length s.rows
length_ready plan s = length_of s (open_play plan s)
