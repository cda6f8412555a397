use Rattle.std.proofs.Common.{◌≡◌, ◌≤◌, drop}
use Rattle.pb_value.specs.Datum.{items_of, members_of, members_nodes, named}
use Rattle.pb_template.specs.Plain.{items_plain, members_plain}
use Rattle.pb_template.proofs.plain.+plain.Given as goal

abbrev pub invariant-items_plain-loop-item : goal.invariant-items_plain-loop-item
invariant-items_plain-loop-item l = items_plain (items_of l.list) ≡ items_plain (items_of (drop l.item-index l.item-items))

abbrev pub invariant-members_plain-loop-key : goal.invariant-members_plain-loop-key
invariant-members_plain-loop-key l =
    (members_plain (members_of l.dict) ≡ members_plain (members_of (named l._key-iterator))) × (members_nodes (members_of (named l._key-iterator)) ≤ members_nodes (members_of l.dict))
