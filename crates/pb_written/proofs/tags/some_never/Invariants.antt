use Rattle.std.proofs.Common.{◌≡◌, drop}
use Rattle.serde_json.specs.View.{items_view}
use Rattle.pb_written.specs.Tags.{some_never}
use Rattle.pb_written.proofs.tags.some_never.Given as goal

abbrev pub invariant-loop-item : goal.invariant-loop-item
invariant-loop-item l = some_never (items_view l.items.items) ≡ some_never (items_view (drop l.item-index l.item-items))
