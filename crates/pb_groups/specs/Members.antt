-- The hosts that belong to a group.
use Rattle.std.specs.Prelude.{◌≡◌, ◌<◌, ℕ, Bool, true, List, [], length, slice_index_or}
use Rattle.pb_groups.specs.declared.links.ChildLink.{ChildLink}
use Rattle.pb_groups.specs.declared.links.OwnHost.{OwnHost}
use Rattle.pb_groups.specs.Ways.{Way}
use Rattle.pb_planes.specs.Set.{is_in}

-- a group, and a host that is one of its own, by their numbers
abbrev pub own_of : ℕ → ℕ → OwnHost
own_of group host = record { group = record { 0 = group }; host = record { 0 = host } }

-- the group of the own host at position k, from 0 on; group 0 past the end
abbrev pub group_at : List OwnHost → ℕ → ℕ
group_at own k = (slice_index_or own k (own_of 0 0)).group.0

-- the host at position k among the own hosts of all groups, from 0 on; host 0 past the end
abbrev pub host_at : List OwnHost → ℕ → ℕ
host_at own k = (slice_index_or own k (own_of 0 0)).host.0

-- the host is one of the group's own
abbrev pub IsOwn : List OwnHost → ℕ → ℕ → Type 0
IsOwn own group host = (k : ℕ) × (k < length own) × (group_at own k ≡ group) × (host_at own k ≡ host)

-- A group's members are its own hosts and the members of its children, and no others: the own hosts of each group that some way leads to.
abbrev pub IsMember : List ChildLink → List OwnHost → ℕ → ℕ → Type 0
IsMember links own group host = (steps : ℕ) × (last : ℕ) × Way links steps group last × IsOwn own last host

-- the groups of all own hosts are among so many groups, and the hosts among so many hosts
abbrev pub AreOwnBelow : List OwnHost → ℕ → ℕ → Type 0
AreOwnBelow own groups hosts = (k : ℕ) → k < length own → (group_at own k < groups) × (host_at own k < hosts)

-- the set of a group; an empty one past the end
abbrev pub plane_at : List (List Bool) → ℕ → List Bool
plane_at planes group = slice_index_or planes group []

-- a set of hosts for each group
abbrev pub ArePlanes : ℕ → ℕ → List (List Bool) → Type 0
ArePlanes groups hosts planes = (length planes ≡ groups) × ((group : ℕ) → group < groups → length (plane_at planes group) ≡ hosts)

-- each host of a group's set belongs to the group
abbrev pub AreSound : List ChildLink → List OwnHost → List (List Bool) → Type 0
AreSound links own planes = (group host : ℕ) → is_in (plane_at planes group) host ≡ true → IsMember links own group host

-- the first so many own hosts are in their groups' sets
abbrev pub HaveOwn : List OwnHost → ℕ → List (List Bool) → Type 0
HaveOwn own done planes = (k : ℕ) → k < done → is_in (plane_at planes (group_at own k)) (host_at own k) ≡ true

-- the set of one group holds that of the other
abbrev pub Holds : List (List Bool) → ℕ → ℕ → Type 0
Holds planes parent child = (host : ℕ) → is_in (plane_at planes child) host ≡ true → is_in (plane_at planes parent) host ≡ true
