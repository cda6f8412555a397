-- A host that may send an item has one.
use Rattle.std.proofs.Common.{◌≡◌, ℕ, Bool, true, false, ◌&&◌, not, refl}
use Rattle.std.specs.Prelude.{◌==◌, Option, Some, None, is_none, slice_get}
use Rattle.std.specs.Option.{option_map_or}
use Rattle.pb_ids.specs.declared.numbers.Ticket.{Ticket}
use Rattle.pb_plan.specs.Plan.{PlayOf}
use Rattle.pb_host.specs.declared.host.Running.{Running}
use Rattle.pb_host.specs.Host.{HostOf}
use Rattle.pb_state.specs.State.{State}
use Rattle.pb_host.specs.Runs.{has_send, may_send_item, sends_running}
use Rattle.pb_hosts.specs.Hosts.{at_row}
use Rattle.pb_state.specs.Machine.{may_send_in}

-- the host of a send has one
and_left : (a b : Bool) → (a && b) ≡ true → a ≡ true
and_left true b e = refl
and_left false b e = cc

and_right : (a b : Bool) → (a && b) ≡ true → b ≡ true
and_right true b e = e
and_right false b e = cc

item_sends : (item attempt : ℕ) (running : Option Running) → option_map_or (sends_running item attempt) running false ≡ true → option_map_or (λ (r : Running). is_none r.out) running false ≡ true
item_sends item attempt None e = e
item_sends item attempt (Some r) e = and_left (is_none r.out) _ e

pub may_has_send : (s : State) (h item attempt : ℕ) (ticket : Ticket) (play : PlayOf) → may_send_in s h item attempt ticket play ≡ true → at_row has_send s.rows h ≡ true
may_has_send s h item attempt ticket play e = by_found (slice_get s.rows h) (and_right (not s.stopped && (ticket.0 == s.sends)) (at_row (may_send_item item attempt) s.rows h) e)
  where
    by_found : (found : Option HostOf) → option_map_or (may_send_item item attempt) found false ≡ true → option_map_or has_send found false ≡ true
    by_found None f = f
    by_found (Some row) f = item_sends item attempt row.running f
