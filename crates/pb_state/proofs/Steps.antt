-- What every step keeps.
use Rattle.std.proofs.Common.{◌≡◌, ℕ, ◌+◌, ◌≤◌, ◌∷◌, ◌<◌, Bool, true, false, ◌&&◌, List, [], length, set, refl, sym, ◌∙◌, ap, arith}
use Rattle.std.specs.Prelude.{Option, Some, None, slice_get, nat_le}
use Rattle.std.specs.Option.{option_map_or}
use Rattle.std.proofs.lemmas.List.{length-map, length-set}
use Rattle.std.proofs.lemmas.Bool.{leb-true}
use Rattle.pb_ids.specs.declared.numbers.Ticket.{Ticket}
use Rattle.pb_outcome.specs.declared.job.Report.{Report}
use Rattle.pb_state.specs.declared.event.Event.{Event}
use Rattle.pb_state.specs.declared.event.Event.TheVariants.{Open, Start, Send, Report as Reported, Turn, Close, Stop, Forks}
use Rattle.pb_inventory.specs.InventoryOf.{InventoryOf}
use Rattle.pb_plan.specs.Plan.{PlayOf, PlanOf}
use Rattle.pb_task_vars.specs.Results.{items_at}
use Rattle.pb_host.specs.Host.{HostOf, progressed, reported, as_play_begins, left}
use Rattle.pb_state.specs.State.{State}
use Rattle.pb_hosts.specs.Hosts.{change}
use Rattle.pb_hosts.specs.Giving.{gifts_at, report_gives}
use Rattle.pb_state.specs.Machine.{possible, after, facts_at, plan_seen, open_play, opened_by, after_open, started_in, next_at, start_at, sent_in, reported_in, batch_of, turned_in, closed, stopped, first_state}
use Rattle.pb_state.specs.Run.{state_from, IsRun}
use Rattle.pb_hosts.proofs.Batching.{length-joined}
use Rattle.pb_hosts.proofs.Giving.{length-given}
use Rattle.pb_state.proofs.Opening.{open_case, rows_case}
use Rattle.pb_hosts.proofs.Turning.{turned_hosts}

length-changed : (rows : List HostOf) (h : ℕ) (f : HostOf → HostOf) (found : Option HostOf) → length (option_map_or (λ row. set rows h (f row)) found rows) ≡ length rows
length-changed rows h f None = refl
length-changed rows h f (Some row) = length-set rows h (f row)

pub length-change : (rows : List HostOf) (h : ℕ) (f : HostOf → HostOf) → length (change rows h f) ≡ length rows
length-change rows h f = length-changed rows h f (slice_get rows h)

-- what a step in a play keeps of the hosts' number, of the forks and of the jobs' number
pub record Keeps (old new : State) : Type 0 where
  pub hosts : length new.rows ≡ length old.rows
  pub forks : new.forks ≡ old.forks
  pub least : old.sends ≤ new.sends
  pub most : new.sends ≤ old.sends + 1

same_sends : (old new : State) → length new.rows ≡ length old.rows → new.forks ≡ old.forks → new.sends ≡ old.sends → Keeps old new
same_sends old new h f s = record { hosts = h; forks = f; least = omega (arith, s); most = omega (arith, s) }

open_keeps : (plan : PlanOf) (s : State) → Keeps s (after_open plan s)
open_keeps plan s =
    open_case (Keeps s) plan s (λ none. same_sends s s refl refl refl)
    (λ n batch sizes rows play size is.
    let stay : length rows ≡ length s.rows = rows_case (λ (all : List HostOf). length all ≡ length s.rows) plan s n batch sizes rows play size is refl (λ hosts. length-map s.rows (as_play_begins hosts)) in
    same_sends s (opened_by s n batch sizes rows play size) (length-joined play.tree size rows ∙ stay) refl refl)

start_keeps : (plan : PlanOf) (s : State) (h : ℕ) (play : PlayOf) (place : Option ℕ) → Keeps s (option_map_or (start_at plan s h play) place s)
start_keeps plan s h play None = same_sends s s refl refl refl
start_keeps plan s h play (Some p) = same_sends s (start_at plan s h play p)
    (length-given (gifts_at plan.inventory play p h (items_at (plan_seen plan s) play h (facts_at s h) p)) (change s.rows h (progressed plan.inventory play p (items_at (plan_seen plan s) play h (facts_at s h) p)))
    ∙ length-change s.rows h (progressed plan.inventory play p (items_at (plan_seen plan s) play h (facts_at s h) p)))
    refl refl

started_keeps : (plan : PlanOf) (s : State) (h : ℕ) (found : Option PlayOf) → Keeps s (option_map_or (started_in plan s h) found s)
started_keeps plan s h None = same_sends s s refl refl refl
started_keeps plan s h (Some play) = start_keeps plan s h play (next_at s h)

sent_keeps : (s : State) (h : ℕ) (ticket : Ticket) (found : Option PlayOf) → Keeps s (option_map_or (sent_in s h ticket) found s)
sent_keeps s h ticket None = same_sends s s refl refl refl
sent_keeps s h ticket (Some play) = record { hosts = length-change s.rows h _; forks = refl; least = omega arith; most = omega arith }

reported_keeps : (plan : PlanOf) (s : State) (r : Report) (found : Option PlayOf) → Keeps s (option_map_or (reported_in plan s r) found s)
reported_keeps plan s r None = same_sends s s refl refl refl
reported_keeps plan s r (Some play) = same_sends s (reported_in plan s r play)
    (length-given (report_gives (plan_seen plan s) play r.outcome r.host.0 s.rows) (change s.rows r.host.0 (reported (plan_seen plan s) play r.outcome))
    ∙ length-change s.rows r.host.0 (reported (plan_seen plan s) play r.outcome))
    refl refl

turned_keeps : (inventory : InventoryOf) (s : State) (found : Option PlayOf) → Keeps s (option_map_or (turned_in inventory s) found s)
turned_keeps inventory s None = same_sends s s refl refl refl
turned_keeps inventory s (Some play) = same_sends s (turned_in inventory s play) (turned_hosts inventory play (batch_of s) s.place) refl refl

closed_keeps : (s : State) → Keeps s (closed s)
closed_keeps s = same_sends s (closed s) (length-map s.rows left) refl refl

stopped_keeps : (s : State) → Keeps s (stopped s)
stopped_keeps s = same_sends s (stopped s) refl refl refl

pub hosts_stay : (plan : PlanOf) (s : State) (e : Event) → length (after plan s e).rows ≡ length s.rows
hosts_stay plan s Open = (open_keeps plan s).hosts
hosts_stay plan s (Start h) = (started_keeps plan s h.0 (open_play plan s)).hosts
hosts_stay plan s (Send h item attempt ticket) = (sent_keeps s h.0 ticket (open_play plan s)).hosts
hosts_stay plan s (Reported r) = (reported_keeps plan s r (open_play plan s)).hosts
hosts_stay plan s Turn = (turned_keeps plan.inventory s (open_play plan s)).hosts
hosts_stay plan s Close = (closed_keeps s).hosts
hosts_stay plan s Stop = (stopped_keeps s).hosts
hosts_stay plan s (Forks n) = refl

same_forks : (m n : ℕ) → n ≡ m → 0 < m → 0 < n
same_forks m n e f = omega (arith, e, f)

and_left : (a b : Bool) → (a && b) ≡ true → a ≡ true
and_left true b e = refl
and_left false b e = cc

forks_given : (s : State) (n : ℕ) → (nat_le 1 n && nat_le n s.pool) ≡ true → 0 < n
forks_given s n e = omega (arith, leb-true 1 n (and_left (nat_le 1 n) _ e))

-- some host may run, whatever comes
pub forks_stay : (plan : PlanOf) (s : State) (e : Event) → possible plan s e ≡ true → 0 < s.forks → 0 < (after plan s e).forks
forks_stay plan s Open p f = same_forks s.forks _ (open_keeps plan s).forks f
forks_stay plan s (Start h) p f = same_forks s.forks _ (started_keeps plan s h.0 (open_play plan s)).forks f
forks_stay plan s (Send h item attempt ticket) p f = same_forks s.forks _ (sent_keeps s h.0 ticket (open_play plan s)).forks f
forks_stay plan s (Reported r) p f = same_forks s.forks _ (reported_keeps plan s r (open_play plan s)).forks f
forks_stay plan s Turn p f = same_forks s.forks _ (turned_keeps plan.inventory s (open_play plan s)).forks f
forks_stay plan s Close p f = f
forks_stay plan s Stop p f = f
forks_stay plan s (Forks n) p f = forks_given s n p

-- the pool stays
start_pool : (plan : PlanOf) (s : State) (h : ℕ) (play : PlayOf) (place : Option ℕ) → (option_map_or (start_at plan s h play) place s).pool ≡ s.pool
start_pool plan s h play None = refl
start_pool plan s h play (Some p) = refl

started_pool : (plan : PlanOf) (s : State) (h : ℕ) (found : Option PlayOf) → (option_map_or (started_in plan s h) found s).pool ≡ s.pool
started_pool plan s h None = refl
started_pool plan s h (Some play) = start_pool plan s h play (next_at s h)

sent_pool : (s : State) (h : ℕ) (ticket : Ticket) (found : Option PlayOf) → (option_map_or (sent_in s h ticket) found s).pool ≡ s.pool
sent_pool s h ticket None = refl
sent_pool s h ticket (Some play) = refl

reported_pool : (plan : PlanOf) (s : State) (r : Report) (found : Option PlayOf) → (option_map_or (reported_in plan s r) found s).pool ≡ s.pool
reported_pool plan s r None = refl
reported_pool plan s r (Some play) = refl

turned_pool : (inventory : InventoryOf) (s : State) (found : Option PlayOf) → (option_map_or (turned_in inventory s) found s).pool ≡ s.pool
turned_pool inventory s None = refl
turned_pool inventory s (Some play) = refl

pub pool_stays : (plan : PlanOf) (s : State) (e : Event) → (after plan s e).pool ≡ s.pool
pool_stays plan s Open = open_case (λ (new : State). new.pool ≡ s.pool) plan s (λ none. refl) (λ n batch sizes rows play size is. refl)
pool_stays plan s (Start h) = started_pool plan s h.0 (open_play plan s)
pool_stays plan s (Send h item attempt ticket) = sent_pool s h.0 ticket (open_play plan s)
pool_stays plan s (Reported r) = reported_pool plan s r (open_play plan s)
pool_stays plan s Turn = turned_pool plan.inventory s (open_play plan s)
pool_stays plan s Close = refl
pool_stays plan s Stop = refl
pool_stays plan s (Forks n) = refl

pool_from : (plan : PlanOf) (s : State) (es : List Event) → (state_from plan s es).pool ≡ s.pool
pool_from plan s [] = refl
pool_from plan s (e ∷ es) = pool_from plan (after plan s e) es ∙ pool_stays plan s e

pub pool_run : (plan : PlanOf) (pool : ℕ) (trail : List Event) (s : State) → IsRun plan pool trail s → s.pool ≡ pool
pool_run plan pool trail s run = ap (λ (t : State). t.pool) (sym run.ends) ∙ pool_from plan (first_state plan plan.forks pool) trail

-- an event sends one job at most
pub sends_rise : (plan : PlanOf) (s : State) (e : Event) → (after plan s e).sends ≤ s.sends + 1
sends_rise plan s Open = (open_keeps plan s).most
sends_rise plan s (Start h) = (started_keeps plan s h.0 (open_play plan s)).most
sends_rise plan s (Send h item attempt ticket) = (sent_keeps s h.0 ticket (open_play plan s)).most
sends_rise plan s (Reported r) = (reported_keeps plan s r (open_play plan s)).most
sends_rise plan s Turn = (turned_keeps plan.inventory s (open_play plan s)).most
sends_rise plan s Close = (closed_keeps s).most
sends_rise plan s Stop = (stopped_keeps s).most
sends_rise plan s (Forks n) = omega arith

-- no ticket is given a second time
pub sends_stay : (plan : PlanOf) (s : State) (e : Event) → s.sends ≤ (after plan s e).sends
sends_stay plan s Open = (open_keeps plan s).least
sends_stay plan s (Start h) = (started_keeps plan s h.0 (open_play plan s)).least
sends_stay plan s (Send h item attempt ticket) = (sent_keeps s h.0 ticket (open_play plan s)).least
sends_stay plan s (Reported r) = (reported_keeps plan s r (open_play plan s)).least
sends_stay plan s Turn = (turned_keeps plan.inventory s (open_play plan s)).least
sends_stay plan s Close = (closed_keeps s).least
sends_stay plan s Stop = (stopped_keeps s).least
sends_stay plan s (Forks n) = omega arith
