-- Worked orders of groups: `all` is 0, `db` 1, `ungrouped` 2 and `web` 3, and host 0 is in `all`, `db` and `web`.
use Rattle.std.specs.Prelude.{◌≡◌, refl, pos, [], ◌∷◌}
use Rattle.pb_groups.specs.GroupsOf.{GroupsOf}
use Rattle.pb_groups.specs.Ways.{link}
use Rattle.pb_groups.specs.Members.{own_of as own}
use Rattle.pb_groups.specs.Merging.{merge_order, depth_of, group_no}

abbrev pub flat : GroupsOf
flat = record { hosts = 1; groups = 4; own = own 1 0 ∷ own 3 0 ∷ own 0 0 ∷ []; links = link 0 1 ∷ link 0 2 ∷ link 0 3 ∷ [] }

-- those of equal depth and priority are ordered by name
pub by_name : merge_order flat (pos 1 ∷ pos 1 ∷ pos 1 ∷ pos 1 ∷ []) 0 ≡ group_no 0 ∷ group_no 1 ∷ group_no 3 ∷ []
by_name = refl

-- with priority 10 on `db`, that group comes last
pub by_priority : merge_order flat (pos 1 ∷ pos 10 ∷ pos 1 ∷ pos 1 ∷ []) 0 ≡ group_no 0 ∷ group_no 3 ∷ group_no 1 ∷ []
by_priority = refl

-- `db` is also a child of `web`, so it lies deeper than by its link from `all`, and its priority doesn't matter
abbrev pub deep : GroupsOf
deep = record { hosts = 1; groups = 4; own = own 1 0 ∷ own 0 0 ∷ []; links = link 0 1 ∷ link 3 1 ∷ link 0 2 ∷ link 0 3 ∷ [] }

pub longest_way : depth_of deep 1 ≡ 2
longest_way = refl

pub by_depth : merge_order deep (pos 1 ∷ pos 1 ∷ pos 1 ∷ pos 10 ∷ []) 0 ≡ group_no 0 ∷ group_no 3 ∷ group_no 1 ∷ []
by_depth = refl
