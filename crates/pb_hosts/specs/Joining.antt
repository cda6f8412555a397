-- How the batch of a play opens for all hosts: the first of those that wait take the walks that were made for them.
use Rattle.std.specs.Prelude.{ℕ, min, Bool, true, false, List, [], ◌∷◌, Option, Some, None, replicate, count_by}
use Rattle.pb_cursors.specs.Walks.{PlayWalkOf, walk_from}
use Rattle.pb_tree.specs.Tree.{TreeOf}
use Rattle.pb_host.specs.Host.{HostOf}
use Rattle.pb_host.specs.Walking.{with_walk}

-- the walks of a batch of this size, where these hosts wait: one for each of those that join
abbrev pub first_walks : TreeOf → ℕ → List Bool → List PlayWalkOf
first_walks tree size awaits_batch = replicate (min size (count_by (λ b. b) awaits_batch)) (walk_from tree)

-- the walk that a host takes of these, where it waits or doesn't, and those that it leaves
abbrev pub taken : Bool → List PlayWalkOf → Option PlayWalkOf
taken true [] = None
taken true (walk ∷ walks) = Some walk
taken false walks = None

abbrev pub walks_behind : Bool → List PlayWalkOf → List PlayWalkOf
walks_behind true [] = []
walks_behind true (walk ∷ walks) = walks
walks_behind false walks = walks

-- the first of the hosts that wait take these walks, one each; the others are in no batch
abbrev pub joined_by : List PlayWalkOf → List HostOf → List HostOf
joined_by walks [] = []
joined_by walks (row ∷ rows) = with_walk (taken row.awaits_batch walks) row ∷ joined_by (walks_behind row.awaits_batch walks) rows
