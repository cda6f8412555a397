-- The lengths of the longest ways.
use Rattle.std.specs.Prelude.{◌<◌, ◌≤◌, ℕ, suc, List, length, slice_index}
use Rattle.pb_groups.specs.declared.links.ChildLink.{ChildLink}
use Rattle.pb_groups.specs.Ways.{Way, parent_at, child_at}

-- Ways go on without end: among so many groups a way of so many steps comes to some group twice.
abbrev pub IsEndless : List ChildLink → ℕ → Type 0
IsEndless links groups = (from : ℕ) × (to : ℕ) × Way links groups from to

-- some group leads, over one step or more, to itself
abbrev pub LeadsToItself : List ChildLink → Type 0
LeadsToItself links = (group : ℕ) × (steps : ℕ) × Way links (suc steps) group group

-- some way of so many steps leads to each group whose depth is at least that
abbrev pub AreReached : List ChildLink → List ℕ → Type 0
AreReached links depths = (group steps : ℕ) → steps ≤ slice_index depths group → (from : ℕ) × Way links steps from group

-- what is known of the depths as long as those above `depth` aren't found
abbrev pub IsLevel : List ChildLink → ℕ → List ℕ → Type 0
IsLevel links depth depths =
    ((group : ℕ) → slice_index depths group ≤ depth)
    × AreReached links depths
    × ((k : ℕ) → k < length links → slice_index depths (parent_at links k) < depth → slice_index depths (parent_at links k) < slice_index depths (child_at links k))
    × ((k : ℕ) → k < length links → depth ≤ slice_index depths (parent_at links k) → depth ≤ slice_index depths (child_at links k))

-- the depths, all below the limit: a way leads to each group in so many steps, and each child lies deeper than its parent
abbrev pub AreDepths : List ChildLink → ℕ → List ℕ → Type 0
AreDepths links limit depths =
    ((group : ℕ) → slice_index depths group < limit)
    × AreReached links depths
    × ((k : ℕ) → k < length links → slice_index depths (parent_at links k) < slice_index depths (child_at links k))
