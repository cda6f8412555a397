-- What a value of `Groups` keeps beside what contracts see.
use Rattle.std.specs.Prelude.{◌<◌, ◌≤◌, ℕ, Bool, List, length}
use Rattle.pb_groups.specs.declared.links.ChildLink.{ChildLink}
use Rattle.pb_groups.specs.declared.links.OwnHost.{OwnHost}
use Rattle.pb_groups.specs.GroupsOf.{max_groups}
use Rattle.pb_groups.specs.Ways.{AreLinksBelow}
use Rattle.pb_groups.specs.Depths.{AreDepths}
use Rattle.pb_groups.specs.Members.{AreOwnBelow}
use Rattle.pb_groups.specs.Planes.{AreFilled}

-- 1 to 4096 groups, each with its depth and the set of its members; own hosts and links name only groups and hosts that are there
abbrev pub IsKept : ℕ → List OwnHost → List ChildLink → List ℕ → List (List Bool) → Type 0
IsKept hosts own links depths members =
    (0 < length depths)
    × (length depths ≤ max_groups)
    × AreOwnBelow own (length depths) hosts
    × AreLinksBelow links (length depths)
    × AreDepths links (length depths) depths
    × AreFilled links own (length depths) hosts members
