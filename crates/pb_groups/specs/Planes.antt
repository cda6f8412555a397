-- How the sets of members are filled, from the deepest groups up.
use Rattle.std.specs.Prelude.{◌≡◌, ◌<◌, ◌≤◌, ℕ, Bool, true, List, length, slice_index}
use Rattle.pb_planes.specs.Set.{is_in}
use Rattle.pb_groups.specs.declared.links.ChildLink.{ChildLink}
use Rattle.pb_groups.specs.declared.links.OwnHost.{OwnHost}
use Rattle.pb_groups.specs.Ways.{parent_at, child_at}
use Rattle.pb_groups.specs.Members.{IsOwn, ArePlanes, AreSound, HaveOwn, Holds, plane_at}

-- the sets hold own hosts alone, and the first so many of them
abbrev pub AreInserted : List OwnHost → ℕ → ℕ → ℕ → List (List Bool) → Type 0
AreInserted own groups hosts done planes =
    ArePlanes groups hosts planes
    × ((group host : ℕ) → is_in (plane_at planes group) host ≡ true → IsOwn own group host)
    × HaveOwn own done planes

-- the sets of the groups of this depth and more hold those of their children
abbrev pub AreFilledFrom : List ChildLink → List OwnHost → List ℕ → ℕ → ℕ → List (List Bool) → Type 0
AreFilledFrom links own depths hosts depth planes =
    ArePlanes (length depths) hosts planes
    × AreSound links own planes
    × HaveOwn own (length own) planes
    × ((k : ℕ) → k < length links → depth ≤ slice_index depths (parent_at links k) → Holds planes (parent_at links k) (child_at links k))

-- the set of each group holds members of it alone, all its own hosts, and the sets of its children
abbrev pub AreFilled : List ChildLink → List OwnHost → ℕ → ℕ → List (List Bool) → Type 0
AreFilled links own groups hosts planes =
    ArePlanes groups hosts planes
    × AreSound links own planes
    × HaveOwn own (length own) planes
    × ((k : ℕ) → k < length links → Holds planes (parent_at links k) (child_at links k))
