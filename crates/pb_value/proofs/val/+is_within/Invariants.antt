use Rattle.std.proofs.Common.{◌≡◌, ◌≤◌, true, drop}
use Rattle.std.specs.Prelude.{nat_le}
use Rattle.pb_value.specs.Datum.{items_of, members_of, members_nodes, named}
use Rattle.pb_value.specs.Depth.{items_depth, members_depth}
use Rattle.pb_value.specs.Numbers.{items_are_words, members_are_words}
use Rattle.pb_value.proofs.val.+is_within.Given as goal

abbrev pub decreases-Dict::is_within : goal.decreases-Dict::is_within
decreases-Dict::is_within l = goal.size-Dict::is_within l

abbrev pub decreases-Val::is_within : goal.decreases-Val::is_within
decreases-Val::is_within l = goal.size-Val::is_within l

abbrev pub decreases-ValList::is_within : goal.decreases-ValList::is_within
decreases-ValList::is_within l = goal.size-ValList::is_within l

abbrev pub invariant-Dict::is_within-loop-key : goal.invariant-Dict::is_within-loop-key
invariant-Dict::is_within-loop-key l =
    (nat_le (members_depth (members_of l.self)) l.levels ≡ nat_le (members_depth (members_of (named l._key-iterator))) l.levels)
    × (members_are_words (members_of (named l._key-iterator)) ≡ true → members_are_words (members_of l.self) ≡ true) × (members_nodes (members_of (named l._key-iterator)) ≤ members_nodes (members_of l.self))

abbrev pub invariant-ValList::is_within-loop-item : goal.invariant-ValList::is_within-loop-item
invariant-ValList::is_within-loop-item l =
    (nat_le (items_depth (items_of l.self)) l.levels ≡ nat_le (items_depth (items_of (drop l.item-index l.item-items))) l.levels)
    × (items_are_words (items_of (drop l.item-index l.item-items)) ≡ true → items_are_words (items_of l.self) ≡ true)
