use Rattle.std.proofs.Common.{◌≡◌, ◌&&◌, ◌||◌, ℕ, false, length, get_or}
use Rattle.std.specs.List.{list_any, range_with_len}
use Rattle.pb_planes.specs.Set.{is_in}
use Rattle.pb_inventory.specs.MemberSets.{members_in}
use Rattle.pb_patterns.proofs.sets.add_groups.Given as goal

abbrev pub invariant-loop-group : goal.invariant-loop-group
invariant-loop-group l =
    (length l.set ≡ length l.fn.set)
    × ((h : ℕ) → is_in l.set h ≡ (is_in l.fn.set h || list_any (λ g. get_or l.groups g false && is_in (members_in l.inventory g) h) (range_with_len 0 l.group)))
