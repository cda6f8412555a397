-- The order in which groups merge (Ansible's documentation, "How variables are merged"): those that lie deeper come later, of equal depth
-- those of higher priority, and of equal priority those of higher number. So later groups override earlier ones.
use Rattle.std.specs.Prelude.{◌≡◌, ℕ, zero, suc, ℤ, pos, Bool, true, ◌&&◌, ◌==◌, List, [], filter, slice_index_or, ◌↔◌, if◌then◌else◌}
use Rattle.std.specs.declared.cmp.Ordering.{Ordering}
use Rattle.std.specs.Ordering.{nat_cmp, int_cmp, ordering_then}
use Rattle.std.specs.BTreeSet.{insert_key}
use Rattle.std.specs.List.{list_any}
use Rattle.std.specs.List.Sorted.{IsStrictlySortedBy}
use Rattle.pb_ids.specs.declared.numbers.GroupNo.{GroupNo}
use Rattle.pb_groups.specs.declared.links.ChildLink.{ChildLink}
use Rattle.pb_groups.specs.declared.merging.MergeKey.{MergeKey}
use Rattle.pb_groups.specs.GroupsOf.{GroupsOf}
use Rattle.pb_groups.specs.Members.{IsMember}
use Rattle.pb_groups.specs.MemberSets.{belongs}

-- whether a way of so many steps from parent to child ends at the group
abbrev pub ends_way : List ChildLink → ℕ → ℕ → Bool
ends_way links zero group = true
ends_way links (suc steps) group = list_any (λ l. (l.child.0 == group) && ends_way links steps l.parent.0) links

-- the length of the longest way to the group, among those of at most so many steps
abbrev pub longest : List ChildLink → ℕ → ℕ → ℕ
longest links zero group = 0
longest links (suc steps) group = if ends_way links (suc steps) group then suc steps else longest links steps group

-- the length of the longest way to the group: no way is longer than there are groups
abbrev pub depth_of : GroupsOf → ℕ → ℕ
depth_of groups group = longest groups.links groups.groups group

-- whether the host belongs to the group
abbrev pub has_member : GroupsOf → ℕ → ℕ → Bool
has_member groups group host = belongs groups.links groups.own groups.groups group host

-- what a group is ordered by
abbrev pub key_of : GroupsOf → List ℤ → ℕ → MergeKey
key_of groups priorities group = record { depth = depth_of groups group; priority = slice_index_or priorities group (pos 0); group = group }

-- by depth, then by priority, and then by number
abbrev pub key_cmp : MergeKey → MergeKey → Ordering
key_cmp a b = ordering_then (nat_cmp a.depth b.depth) (ordering_then (int_cmp a.priority b.priority) (nat_cmp a.group b.group))

-- how two groups are ordered
abbrev pub merge_cmp : GroupsOf → List ℤ → GroupNo → GroupNo → Ordering
merge_cmp groups priorities a b = key_cmp (key_of groups priorities a.0) (key_of groups priorities b.0)

abbrev pub group_no : ℕ → GroupNo
group_no n = record { 0 = n }

-- the first so many groups, each at its place in the order
abbrev pub first_in_order : GroupsOf → List ℤ → ℕ → List GroupNo
first_in_order groups priorities zero = []
first_in_order groups priorities (suc n) = insert_key (merge_cmp groups priorities) (first_in_order groups priorities n) (group_no n)

-- all groups in order
abbrev pub in_order : GroupsOf → List ℤ → List GroupNo
in_order groups priorities = first_in_order groups priorities groups.groups

-- those of a list of groups that have the host
abbrev pub with_host : GroupsOf → ℕ → List GroupNo → List GroupNo
with_host groups host order = filter (λ g. has_member groups g.0 host) order

-- the groups of a host in order
abbrev pub merge_order : GroupsOf → List ℤ → ℕ → List GroupNo
merge_order groups priorities host = with_host groups host (in_order groups priorities)

-- each group comes before those behind it, so that none is there twice
abbrev pub IsInOrder : GroupsOf → List ℤ → List GroupNo → Type 0
IsInOrder groups priorities order = IsStrictlySortedBy (merge_cmp groups priorities) order

-- whether the group with this number is in the list
abbrev pub is_among : List GroupNo → ℕ → Bool
is_among order group = list_any (λ g. g.0 == group) order

-- the list has each group of the host, and no other
abbrev pub AreGroupsOf : GroupsOf → ℕ → List GroupNo → Type 0
AreGroupsOf groups host order = (group : ℕ) → (is_among order group ≡ true) ↔ IsMember groups.links groups.own group host
