use Rattle.std.proofs.Common.{◌≡◌, ◌≤◌, ◌++◌, ◌∷◌, drop}
use Rattle.json.specs.Token.{begin_array, begin_object}
use Rattle.pb_value.specs.Datum.{items_of, members_of, members_nodes, named}
use Rattle.pb_compact.specs.Tokens.{item_tokens, member_tokens}
use Rattle.pb_compact.proofs.writing.+write.Given as goal

abbrev pub invariant-write_items-loop-item : goal.invariant-write_items-loop-item
invariant-write_items-loop-item l =
    (l.out.tokens ++ item_tokens (items_of (drop l.item-index l.item-items)) ≡ l.fn.out.tokens ++ begin_array ∷ item_tokens (items_of l.item-items))
    × (l.out.before ≡ l.fn.out.before)

abbrev pub invariant-write_members-loop-key : goal.invariant-write_members-loop-key
invariant-write_members-loop-key l =
    (l.out.tokens ++ member_tokens (members_of (named l.key-iterator)) ≡ l.fn.out.tokens ++ begin_object ∷ member_tokens (members_of l.members))
    × (l.out.before ≡ l.fn.out.before) × (members_nodes (members_of (named l.key-iterator)) ≤ members_nodes (members_of l.members))
