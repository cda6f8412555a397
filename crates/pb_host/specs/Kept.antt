-- What is kept beside the items of a task that a host runs, and how one of them changes.
use Rattle.std.specs.Prelude.{◌≡◌, ◌≤◌, ℕ, Bool, List, length, Option, slice_get, slice_set}
use Rattle.std.specs.List.{position_or_len}
use Rattle.std.specs.Option.{option_map_or}
use Rattle.pb_outcome.specs.declared.item.Item.{Item}
use Rattle.pb_outcome.specs.declared.item.Planned.{Planned}
use Rattle.pb_outcome.specs.Gathered.{some_unreachable}
use Rattle.pb_outcome.specs.Items.{waits, next_item, ended}

-- the number of the first item that waits, or of how many there are where none does
abbrev pub first_waiting : List Item → ℕ
first_waiting items = position_or_len waits items

-- the number of the next item to be sent, and whether an item found its host out of reach; a task has 10,000 items at most
pub record IsKept (items : List Item) (next : Option ℕ) (lost : Bool) : Type 0 where
  pub next_is : next ≡ next_item items
  pub lost_is : lost ≡ some_unreachable (ended items)
  pub most : length items ≤ 10000

-- the items with another in the place of the one with this number
abbrev pub with_item : ℕ → (Item → Item) → List Item → List Item
with_item n change items = option_map_or (λ (item : Item). slice_set items n (change item)) (slice_get items n) items

-- with this step of it
abbrev pub with_step : ℕ → Planned → List Item → List Item
with_step n step items = with_item n (λ item. record item { step = step }) items

-- and with so many attempts at it behind it
abbrev pub with_tried : ℕ → ℕ → List Item → List Item
with_tried n tried items = with_item n (λ item. record item { tried = tried }) items
