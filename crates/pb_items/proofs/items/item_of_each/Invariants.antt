use Rattle.std.proofs.Common.{◌≡◌, ◌++◌, map, Some}
use Rattle.pb_items.specs.Items.{item_in}
use Rattle.pb_items.proofs.items.item_of_each.Given as goal

abbrev pub invariant-loop-value : goal.invariant-loop-value
invariant-loop-value l =
    map (λ value. item_in l.start (Some value)) l.fn.values ≡ l.items.items ++ map (λ value. item_in l.start (Some value)) l.value-iterator.rest.items
