-- What is sent for an item of a task, and to which host it is delegated.
use Rattle.std.specs.Prelude.{ℕ, List, Option, Some, None, slice_get}
use Rattle.std.specs.Option.{option_map_or}
use Rattle.pb_outcome.specs.declared.item.Item.{Item}
use Rattle.pb_outcome.specs.declared.item.Planned.{Planned}
use Rattle.pb_outcome.specs.declared.item.Planned.TheVariants.{Decided, Sends}
use Rattle.pb_outcome.specs.declared.job.Call.{Call}

-- what is sent for the item with this number
abbrev pub call_of : Planned → Option Call
call_of (Decided result) = None
call_of (Sends call) = Some call

-- none where it has its result already, or where there is no such item
abbrev pub call_in : List Item → ℕ → Option Call
call_in items n = option_map_or (λ (item : Item). call_of item.step) (slice_get items n) None

-- how many attempts at it came back
abbrev pub tried_of : List Item → ℕ → ℕ
tried_of items n = option_map_or (λ (item : Item). item.tried) (slice_get items n) 0

-- and the name of the host that it is delegated to, if it is
abbrev pub delegate_in : List Item → ℕ → Option (List ℕ)
delegate_in items n = option_map_or (λ (item : Item). item.delegate) (slice_get items n) None
