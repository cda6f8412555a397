-- What a host runs, which job of it goes out next, and what it waits for.
use Rattle.std.specs.Prelude.{ℕ, ◌==◌, Bool, false, ◌&&◌, List, Option, None, is_some, is_none}
use Rattle.std.specs.Option.{option_map_or}
use Rattle.pb_ids.specs.declared.numbers.Ticket.{Ticket}
use Rattle.pb_outcome.specs.declared.item.Item.{Item}
use Rattle.pb_outcome.specs.Items.{next_item}
use Rattle.pb_host.specs.declared.host.Running.{Running}
use Rattle.pb_host.specs.Attempts.{attempt_next}
use Rattle.pb_host.specs.Host.{HostOf, is_active}

-- a host of the batch that is active
abbrev pub is_in : HostOf → Bool
is_in row = row.in_batch && is_active row.status

-- a host runs from its start until its task is finished
abbrev pub is_running : HostOf → Bool
is_running row = is_some row.running

-- whether the job that is out has this ticket; where none is out, it hasn't
abbrev pub is_ticket : Ticket → Option Ticket → Bool
is_ticket ticket out = option_map_or (λ (t : Ticket). t.0 == ticket.0) out false

-- a host that runs, with no job of it out
abbrev pub has_send : HostOf → Bool
has_send row = option_map_or (λ (r : Running). is_none r.out) row.running false

-- a host whose job is out
abbrev pub is_out : HostOf → Bool
is_out row = option_map_or (λ (r : Running). is_some r.out) row.running false

-- a host whose job is out under this ticket
abbrev pub has_ticket : Ticket → HostOf → Bool
has_ticket ticket row = option_map_or (λ (r : Running). is_ticket ticket r.out) row.running false

-- the item with this number is the next of a task
abbrev pub is_item : ℕ → List Item → Bool
is_item item items = option_map_or (λ n. n == item) (next_item items) false

-- this attempt at that item is the next of a task that runs
abbrev pub is_next : ℕ → ℕ → Running → Bool
is_next item attempt r = is_item item r.items && (attempt_next r.items == attempt)

-- a host that runs, with no job of it out, sends the next attempt at the next of its items
abbrev pub sends_running : ℕ → ℕ → Running → Bool
sends_running item attempt r = is_none r.out && is_next item attempt r

-- the same of a host's row: one that runs nothing sends nothing
abbrev pub may_send_item : ℕ → ℕ → HostOf → Bool
may_send_item item attempt row = option_map_or (sends_running item attempt) row.running false

-- a host whose job for this attempt at this item is out under this ticket
abbrev pub awaits_running : Ticket → ℕ → ℕ → Running → Bool
awaits_running ticket item attempt r = is_ticket ticket r.out && is_next item attempt r

-- the same of a host's row: one that runs nothing awaits nothing
abbrev pub awaits : Ticket → ℕ → ℕ → HostOf → Bool
awaits ticket item attempt row = option_map_or (awaits_running ticket item attempt) row.running false

-- the number of the item that a host sends next, or whose job is out
abbrev pub item_of : HostOf → Option ℕ
item_of row = option_map_or (λ (r : Running). next_item r.items) row.running None

-- the attempt at it that a host sends next, or whose job is out; it is the first where a host runs nothing
abbrev pub attempt_of : HostOf → ℕ
attempt_of row = option_map_or (λ (r : Running). attempt_next r.items) row.running 1
