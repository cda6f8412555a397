-- The groups and hosts of an inventory by their numbers.
use Rattle.std.specs.Prelude.{ℕ, zero, suc, Bool, true, false, ◌&&◌, ◌==◌, not, List, [], ◌∷◌, ◌++◌, map, filter, length, slice_index_or, Option, Some, None, codes, position, if◌then◌else◌}
use Rattle.std.specs.List.{list_any, range_with_len}
use Rattle.std.specs.Str.{bytes_eq}
use Rattle.pb_groups.specs.declared.links.ChildLink.{ChildLink}
use Rattle.pb_groups.specs.declared.links.OwnHost.{OwnHost}
use Rattle.pb_groups.specs.Ways.{link}
use Rattle.pb_groups.specs.Members.{own_of as own}
use Rattle.pb_inventory.specs.Names.{once, in_byte_order}
use Rattle.pb_inventory.specs.declared.listed.Listed.{Listed}

-- how many groups an inventory may have, `all` and `ungrouped` among them
abbrev pub max_groups : ℕ
max_groups = 4096

-- the groups that always are
abbrev pub all : List ℕ
all = codes "all"

abbrev pub ungrouped : List ℕ
ungrouped = codes "ungrouped"

-- the hosts that the groups mention, and the groups: those that are listed, and their children
abbrev pub mentioned_hosts : List Listed → List (List ℕ)
mentioned_hosts [] = []
mentioned_hosts (group ∷ groups) = group.hosts ++ mentioned_hosts groups

abbrev pub mentioned_groups : List Listed → List (List ℕ)
mentioned_groups [] = []
mentioned_groups (group ∷ groups) = (group.name ∷ group.children) ++ mentioned_groups groups

-- hosts are numbered by first mention, groups in byte order of their names
abbrev pub host_names : List Listed → List (List ℕ)
host_names listed = once (mentioned_hosts listed)

abbrev pub group_names : List Listed → List (List ℕ)
group_names listed = in_byte_order (all ∷ ungrouped ∷ mentioned_groups listed)

-- a number in front of others, if there is one
abbrev pub number_first : Option ℕ → List ℕ → List ℕ
number_first (Some n) ns = n ∷ ns
number_first None ns = ns

-- the numbers that the names have among all names
abbrev pub numbers_of : List (List ℕ) → List (List ℕ) → List ℕ
numbers_of known [] = []
numbers_of known (name ∷ names) = number_first (position (bytes_eq name) known) (numbers_of known names)

-- the number of a group
abbrev pub group_number : List (List ℕ) → List ℕ → Option ℕ
group_number groups name = position (bytes_eq name) groups

-- the hosts as own hosts of the group
abbrev pub own_under : Option ℕ → List ℕ → List OwnHost
own_under None hosts = []
own_under (Some group) hosts = map (own group) hosts

-- whatever is listed under `all` and `ungrouped`, these have the hosts that they have to have
abbrev pub has_own_list : List ℕ → Bool
has_own_list name = not (bytes_eq name all) && not (bytes_eq name ungrouped)

-- the hosts that are listed under a group and count: none under `all` and `ungrouped`
abbrev pub listed_hosts : Listed → List (List ℕ)
listed_hosts listed = if has_own_list listed.name then listed.hosts else []

-- the hosts that are listed under groups other than `all` and `ungrouped`
abbrev pub own_listed : List (List ℕ) → List (List ℕ) → List Listed → List OwnHost
own_listed groups hosts [] = []
own_listed groups hosts (listed ∷ rest) = own_under (group_number groups listed.name) (numbers_of hosts (listed_hosts listed)) ++ own_listed groups hosts rest

-- the numbers below a limit that aren't in the list
abbrev pub missing : List ℕ → ℕ → List ℕ
missing numbers limit = filter (λ n. not (list_any (λ m. m == n) numbers)) (range_with_len 0 limit)

-- whether a number has no mark; one past the end has none
abbrev pub is_unmarked : List Bool → ℕ → Bool
is_unmarked marks n = not (slice_index_or marks n false)

-- each host belongs to `all`; `ungrouped` has those that no other group has
abbrev pub own_with : List (List ℕ) → ℕ → List OwnHost → List OwnHost
own_with groups hosts others =
    others ++ own_under (group_number groups all) (range_with_len 0 hosts) ++ own_under (group_number groups ungrouped) (missing (map (λ o. o.host.0) others) hosts)

-- the own hosts of all groups, by the names of the groups, the names of the hosts, and what the file lists
abbrev pub own_of : List (List ℕ) → List (List ℕ) → List Listed → List OwnHost
own_of groups hosts listed = own_with groups (length hosts) (own_listed groups hosts listed)

-- the children that are listed
abbrev pub links_under : Option ℕ → List ℕ → List ChildLink
links_under None children = []
links_under (Some group) children = map (link group) children

abbrev pub links_listed : List (List ℕ) → List Listed → List ChildLink
links_listed groups [] = []
links_listed groups (listed ∷ rest) = links_under (group_number groups listed.name) (numbers_of groups listed.children) ++ links_listed groups rest

-- a group that is nobody's child is a child of `all`
abbrev pub links_with : List (List ℕ) → List ChildLink → List ChildLink
links_with groups listed = listed ++ links_under (group_number groups all) (missing (number_first (group_number groups all) (map (λ l. l.child.0) listed)) (length groups))

-- which groups are children of which, by the names of the groups and what the file lists
abbrev pub links_of : List (List ℕ) → List Listed → List ChildLink
links_of groups listed = links_with groups (links_listed groups listed)

-- whether a way of so many steps from parent to child begins at the group
abbrev pub begins_way : List ChildLink → ℕ → ℕ → Bool
begins_way links zero group = true
begins_way links (suc steps) group = list_any (λ l. (l.parent.0 == group) && begins_way links steps l.child.0) links

-- ways go on without end: some way has as many steps as there are groups
abbrev pub has_cycle : List ChildLink → ℕ → Bool
has_cycle links groups = list_any (λ l. begins_way links groups l.parent.0) links
