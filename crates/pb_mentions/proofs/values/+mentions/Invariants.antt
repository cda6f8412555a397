use Rattle.std.proofs.Common.{◌≡◌, ◌≤◌, drop}
use Rattle.pb_value.specs.Datum.{items_of, members_of, members_nodes, named}
use Rattle.pb_mentions.specs.Mentions.{items_mention, members_mention}
use Rattle.pb_mentions.proofs.values.+mentions.Given as goal

abbrev pub invariant-items_mention-loop-item : goal.invariant-items_mention-loop-item
invariant-items_mention-loop-item l = items_mention l.word (items_of l.list) ≡ items_mention l.word (items_of (drop l.item-index l.item-items))

abbrev pub invariant-members_mention-loop-key : goal.invariant-members_mention-loop-key
invariant-members_mention-loop-key l =
    (members_mention l.word (members_of l.dict) ≡ members_mention l.word (members_of (named l._key-iterator))) × (members_nodes (members_of (named l._key-iterator)) ≤ members_nodes (members_of l.dict))
