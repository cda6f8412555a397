-- The lines of the items of a loop that ended (Ansible's documentation, "Callback plugins": `runner_item_on_ok`, `_failed` and `_skipped`).
use Rattle.std.specs.Prelude.{ℕ, pos, List, [], ◌∷◌, ◌++◌, codes, if◌then◌else◌}
use Rattle.pb_value.specs.Datum.{Datum, text, int}
use Rattle.pb_outcome.specs.Gathered.{is_unreachable, is_failed, is_skipped}
use Rattle.pb_outcome.specs.declared.gather.Ending.{Ending}
use Rattle.pb_outcome.specs.declared.gather.ItemResult.{ItemResult}
use Rattle.pb_events.specs.Line.{line}

-- the name that the line of an item has, by how the item ended: it failed, was left out, or went well
abbrev pub item_event : Ending → List ℕ
item_event ending =
    if is_failed ending then codes "runner_item_on_failed"
    else (if is_skipped ending then codes "runner_item_on_skipped" else codes "runner_item_on_ok")

-- the line of an item: of the two numbers the first is the play's, the second the item's in its loop
abbrev pub item_end : List ℕ → List ℕ → List ℕ → ℕ → ℕ → Datum → List ℕ
item_end event host place play number result =
    line
    ((codes "event", text event) ∷ (codes "host", text host) ∷ (codes "item", int (pos number)) ∷ (codes "place", text place) ∷ (codes "play", int (pos play))
    ∷ (codes "result", result) ∷ [])

-- none of an item that found its host out of reach: the task's own line tells of that
abbrev pub item_line : List ℕ → List ℕ → ℕ → ℕ → ItemResult → List ℕ
item_line host place play number item =
    if is_unreachable item.ending then [] else item_end (item_event item.ending) host place play number item.result

-- those of some items with their numbers
abbrev pub item_lines : List ℕ → List ℕ → ℕ → List (ℕ × ItemResult) → List ℕ
item_lines host place play [] = []
item_lines host place play (results ∷ rest) = item_line host place play results.0 results.1 ++ item_lines host place play rest
