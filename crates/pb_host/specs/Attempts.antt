-- The attempts at the items of a task: which one goes out next, and what it leads to
-- (Ansible's documentation, "Retrying a task until a condition is met").
use Rattle.std.specs.Prelude.{ℕ, ◌+◌, ◌*◌, nat_lt, List, [], ◌∷◌, if◌then◌else◌}
use Rattle.pb_conditions.specs.declared.attempt.Back.{Back}
use Rattle.pb_conditions.specs.declared.attempt.Back.TheVariants.{Ends, Again}
use Rattle.pb_outcome.specs.declared.item.Item.{Item}
use Rattle.pb_outcome.specs.declared.item.Planned.{Planned}
use Rattle.pb_outcome.specs.declared.item.Planned.TheVariants.{Decided, Sends}
use Rattle.pb_outcome.specs.declared.job.Call.{Call}
use Rattle.pb_host.specs.Kept.{first_waiting}

-- An item once an attempt at it came to this: it has its result, or it waits for the next attempt. The 101st is the last one, whatever its task says.
abbrev pub came : Back → Item → Item
came (Ends result) item = record item { step = Decided result }
came (Again result) item = if nat_lt item.tried 100 then record item { tried = item.tried + 1 } else record item { step = Decided result }

-- the call of the first item that waits came back with this; the other items stay as they are
abbrev pub back_at : (Item → Call → Back) → Item → List Item → List Item → Planned → List Item
back_at judge item rest back (Decided result) = item ∷ back
back_at judge item rest back (Sends call) = came (judge item call) item ∷ rest

-- the same of all items of a task; they stay as they are where none waits
abbrev pub back_in : (Item → Call → Back) → List Item → List Item
back_in judge [] = []
back_in judge (item ∷ items) = back_at judge item items (back_in judge items) item.step

-- how many attempts at the first item that waits came back; none where no item waits
abbrev pub tried_then : Planned → ℕ → ℕ → ℕ
tried_then (Decided result) tried rest = rest
tried_then (Sends call) tried rest = tried

abbrev pub tried_next : List Item → ℕ
tried_next [] = 0
tried_next (item ∷ items) = tried_then item.step item.tried (tried_next items)

-- an attempt's number is one more than came back before it; there are 101 at most
abbrev pub attempt_after : ℕ → ℕ
attempt_after tried = if nat_lt tried 100 then tried + 1 else 101

-- the attempt at the next item that goes out next, or whose job is out
abbrev pub attempt_next : List Item → ℕ
attempt_next items = attempt_after (tried_next items)

-- how many of the 101 attempts at the next item are behind it, where it waits
abbrev pub tried_most : ℕ → ℕ
tried_most tried = if nat_lt tried 100 then tried else 100

-- from 0 to 100, and 0 where no item waits
abbrev pub tried_count : List Item → ℕ
tried_count items = tried_most (tried_next items)

-- how far a task is in its items, each of which counts as 101 attempts: with each attempt that comes back it is further
abbrev pub rank : List Item → ℕ
rank items = 101 * first_waiting items + tried_count items
