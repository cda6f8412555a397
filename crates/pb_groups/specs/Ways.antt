-- Ways from group to group.
use Rattle.std.specs.Prelude.{◌≡◌, ◌<◌, ℕ, zero, suc, List, length, slice_index_or}
use Rattle.pb_groups.specs.declared.links.ChildLink.{ChildLink}

-- a link from one group to another that is its child
abbrev pub link : ℕ → ℕ → ChildLink
link parent child = record { parent = record { 0 = parent }; child = record { 0 = child } }

-- the parent of the link at position k, from 0 on; group 0 past the end
abbrev pub parent_at : List ChildLink → ℕ → ℕ
parent_at links k = (slice_index_or links k (link 0 0)).parent.0

-- the child of the link at position k, from 0 on; group 0 past the end
abbrev pub child_at : List ChildLink → ℕ → ℕ
child_at links k = (slice_index_or links k (link 0 0)).child.0

-- some link leads from the parent to the child
abbrev pub IsChild : List ChildLink → ℕ → ℕ → Type 0
IsChild links parent child = (k : ℕ) × (k < length links) × (parent_at links k ≡ parent) × (child_at links k ≡ child)

-- a way of so many steps, each from a group to a child of it
abbrev pub Way : List ChildLink → ℕ → ℕ → ℕ → Type 0
Way links zero from to = from ≡ to
Way links (suc steps) from to = (last : ℕ) × Way links steps from last × IsChild links last to

-- both ends of each link are numbers of groups
abbrev pub AreLinksBelow : List ChildLink → ℕ → Type 0
AreLinksBelow links groups = (k : ℕ) → k < length links → (parent_at links k < groups) × (child_at links k < groups)
