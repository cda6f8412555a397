-- Commands: one that is in range is possible, and it is known whether a run is at its end.
use Rattle.std.proofs.Common.{◌≡◌, ℕ, zero, suc, Bool, true, false, ◌&&◌, not, List, [], ◌∷◌, length, replicate, refl, sym, ◌∙◌, ap, inl, inr}
use Rattle.std.specs.Prelude.{◌==◌, Option, Some, None, slice_get, is_none}
use Rattle.std.specs.List.{list_any}
use Rattle.std.specs.Option.{option_map_or}
use Rattle.std.proofs.lemmas.Bool.{eq-eqb}
use Rattle.pb_ids.specs.declared.numbers.HostNo.{HostNo}
use Rattle.pb_ids.specs.declared.numbers.Ticket.{Ticket}
use Rattle.pb_planes.specs.Set.{has_some}
use Rattle.pb_plan.specs.Plan.{PlayOf, PlanOf}
use Rattle.pb_state.specs.declared.event.Event.{Event}
use Rattle.pb_state.specs.declared.event.Event.TheVariants.{Open, Start, Send, Turn, Close}
use Rattle.pb_host.specs.declared.host.Running.{Running}
use Rattle.pb_host.specs.Attempts.{attempt_next}
use Rattle.pb_host.specs.Host.{HostOf}
use Rattle.pb_state.specs.State.{State}
use Rattle.pb_host.specs.Runs.{has_send, is_item, is_next, sends_running, may_send_item, is_out}
use Rattle.pb_hosts.specs.Hosts.{at_row}
use Rattle.pb_state.specs.Machine.{possible, ready, ready_in, may_start_in, may_send_in, open_play}
use Rattle.pb_state.specs.Run.{IsRun, IsFinished}
use Rattle.pb_host.proofs.InOrder.{goes_on_at}
use Rattle.pb_state.proofs.Readies.{ready_either}
use Rattle.pb_state.proofs.Stands.{both}
use Rattle.pb_state.proofs.Steps.{pool_run}
use Rattle.pb_engine.specs.declared.command.Command.{Command}
use Rattle.pb_engine.specs.declared.command.Command.TheVariants.{Stop as ToStop, Forks as ToForks}
use Rattle.pb_engine.specs.Commands.{event_for, is_in_range, is_finished}
use Rattle.pb_state.specs.Over.{IsUnfinished, AreUnfinished, IsGoing}
use Rattle.pb_state.proofs.Held.{going_run}
use Rattle.pb_state.proofs.Quiet.{finished_now}

and_left : (a b : Bool) → (a && b) ≡ true → a ≡ true
and_left true b e = refl
and_left false b e = cc

and_right : (a b : Bool) → (a && b) ≡ true → b ≡ true
and_right true b e = e
and_right false b e = cc

not_false : (b : Bool) → not b ≡ true → b ≡ false
not_false true e = cc
not_false false e = refl

-- a command in range is possible
pub may_command : (plan : PlanOf) (pool : ℕ) (trail : List Event) (s : State) (command : Command) → IsRun plan pool trail s → is_in_range pool command ≡ true → possible plan s (event_for command) ≡ true
may_command plan pool trail s ToStop run e = refl
may_command plan pool trail s (ToForks n) run e = ap (λ (p : ℕ). is_in_range p (ToForks n)) (pool_run plan pool trail s run) ∙ e

-- a state that is finished
is_over_now : (plan : PlanOf) (s : State) → is_finished plan s ≡ true → IsFinished plan s
is_over_now plan s e =
    let four = and_left (not (has_some (ready plan s)) && not (possible plan s Turn) && not (possible plan s Close) && not (possible plan s Open)) _ e in
    let three = and_left (not (has_some (ready plan s)) && not (possible plan s Turn) && not (possible plan s Close)) _ four in
    let two = and_left (not (has_some (ready plan s)) && not (possible plan s Turn)) _ three in
    finished_now plan s (not_false (has_some (ready plan s)) (and_left (not (has_some (ready plan s))) _ two)) (not_false (possible plan s Turn) (and_right (not (has_some (ready plan s))) _ two))
    (not_false (possible plan s Close) (and_right (not (has_some (ready plan s)) && not (possible plan s Turn)) _ three))
    (not_false (possible plan s Open) (and_right (not (has_some (ready plan s)) && not (possible plan s Turn) && not (possible plan s Close)) _ four))
    (not_false (list_any is_out s.rows) (and_right (not (has_some (ready plan s)) && not (possible plan s Turn) && not (possible plan s Close) && not (possible plan s Open)) _ e))

-- a set with a member has one
some_member : (set : List Bool) → has_some set ≡ true → (h : ℕ) × (slice_get set h ≡ Some true)
some_member [] e = cc
some_member (true ∷ set) e = (0, refl)
some_member (false ∷ set) e = let rest = some_member set e in (suc rest.0, rest.1)

-- a host that has a send has an attempt at an item to send
send_next : (running : Option Running) → IsUnfinished running → option_map_or (λ (r : Running). is_none r.out) running false ≡ true → (item : ℕ) × (attempt : ℕ) × (option_map_or (sends_running item attempt) running false ≡ true)
send_next None going e = cc
send_next (Some r) going e =
    let next = goes_on_at r.items going in
    let item : is_item next.0 r.items ≡ true = ap (λ (n : Option ℕ). option_map_or (λ m. m == next.0) n false) next.1 ∙ eq-eqb next.0 next.0 refl in
    let attempt : (attempt_next r.items == attempt_next r.items) ≡ true = eq-eqb (attempt_next r.items) (attempt_next r.items) refl in
    (next.0, attempt_next r.items, both (is_none r.out) (is_next next.0 (attempt_next r.items) r) e (both (is_item next.0 r.items) (attempt_next r.items == attempt_next r.items) item attempt))

send_at : (rows : List HostOf) (h : ℕ) → AreUnfinished rows → at_row has_send rows h ≡ true → (item : ℕ) × (attempt : ℕ) × (at_row (may_send_item item attempt) rows h ≡ true)
send_at [] h going e = cc
send_at (row ∷ rows) zero going e = send_next row.running going.0 e
send_at (row ∷ rows) (suc h) going e = send_at rows h going.1 e

never : (b : Bool) → b ≡ true → b ≡ false → ⊥
never b t f = let both_ways : true ≡ false = sym t ∙ f in cc

-- in a finished state nobody is ready
none_of : (n h : ℕ) → slice_get (replicate n false) h ≡ Some true → ⊥
none_of zero h e = cc
none_of (suc n) zero e = cc
none_of (suc n) (suc h) e = none_of n h e

ready_none : (plan : PlanOf) (s : State) (h : ℕ) (found : Option PlayOf) → open_play plan s ≡ found → IsGoing s → IsFinished plan s → slice_get (option_map_or (ready_in s) found (replicate (length s.rows) false)) h ≡ Some true → ⊥
ready_none plan s h None o going over e = none_of (length s.rows) h e
ready_none plan s h (Some play) o going over e =
    elim (ready_either s play h e) [
      | inl may ↦ (let host : HostNo = record { 0 = h } in
          never (possible plan s (Start host)) (ap (λ (found : Option PlayOf). option_map_or (may_start_in s h) found false) o ∙ may) (over.over (Start host) refl))
      | inr send ↦ (let host : HostNo = record { 0 = h } in
          let ticket : Ticket = record { 0 = s.sends } in
          let item = send_at s.rows h going.tasks send.1 in
          let may : may_send_in s h item.0 item.1 ticket play ≡ true = both (not s.stopped && (s.sends == s.sends)) (at_row (may_send_item item.0 item.1) s.rows h) (both (not s.stopped) (s.sends == s.sends) (ap not send.0) (eq-eqb s.sends s.sends refl)) item.2 in
          never (possible plan s (Send host item.0 item.1 ticket)) (ap (λ (found : Option PlayOf). option_map_or (may_send_in s h item.0 item.1 ticket) found false) o ∙ may) (over.over (Send host item.0 item.1 ticket) refl))
    ]

nobody_ready : (plan : PlanOf) (s : State) (b : Bool) → has_some (ready plan s) ≡ b → IsGoing s → IsFinished plan s → b ≡ false
nobody_ready plan s false e going over = refl
nobody_ready plan s true e going over = absurd (let some = some_member (ready plan s) e in ready_none plan s some.0 (open_play plan s) refl going over some.1)

over_is : (plan : PlanOf) (s : State) → IsGoing s → IsFinished plan s → is_finished plan s ≡ true
over_is plan s going over =
    both (not (has_some (ready plan s)) && not (possible plan s Turn) && not (possible plan s Close) && not (possible plan s Open)) (not (list_any is_out s.rows))
    (both (not (has_some (ready plan s)) && not (possible plan s Turn) && not (possible plan s Close)) (not (possible plan s Open))
    (both (not (has_some (ready plan s)) && not (possible plan s Turn)) (not (possible plan s Close))
    (both (not (has_some (ready plan s))) (not (possible plan s Turn)) (ap not (nobody_ready plan s (has_some (ready plan s)) refl going over)) (ap not (over.over Turn refl)))
    (ap not (over.over Close refl)))
    (ap not (over.over Open refl)))
    (ap not over.none_out)

-- of a run
pub finished_run : (plan : PlanOf) (pool : ℕ) (trail : List Event) (s : State) → IsRun plan pool trail s → (is_finished plan s ≡ true → IsFinished plan s) × (IsFinished plan s → is_finished plan s ≡ true)
finished_run plan pool trail s run = (is_over_now plan s, over_is plan s (going_run plan pool trail s run))
