-- What is shown of a task that ended: it is made of its items, or handed on from the only one of them, where they aren't kept.
use Rattle.std.specs.Prelude.{Bool, ◌||◌, List, [], Option, Some, None, is_some, unwrap_or, if◌then◌else◌}
use Rattle.pb_value.specs.Datum.{Datum, null}
use Rattle.pb_outcome.specs.declared.item.Item.{Item}
use Rattle.pb_outcome.specs.Items.{only_result}

-- what is shown: it was made, or stands in the items
abbrev pub shown_by : Option Datum → List Item → Datum
shown_by (Some made) items = made
shown_by None items = unwrap_or (only_result items) null

-- whether it is there
abbrev pub has_shown : Option Datum → List Item → Bool
has_shown made items = is_some made || is_some (only_result items)

-- the items that are let go as a task ends
abbrev pub let_go : Bool → List Item → List Item
let_go kept items = if kept then [] else items
