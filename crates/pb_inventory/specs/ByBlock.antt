-- Of each 64 hosts the groups that have one of them, so that a host needn't be asked of every group.
use Rattle.std.specs.Prelude.{◌≡◌, ◌<◌, ◌+◌, ◌*◌, ◌/◌, ◌||◌, ℕ, zero, suc, Bool, false, List, [], filter, length, slice_index_or}
use Rattle.pb_ids.specs.declared.numbers.GroupNo.{GroupNo}
use Rattle.pb_planes.specs.Set.{is_in}
use Rattle.pb_groups.specs.GroupsOf.{GroupsOf}
use Rattle.pb_groups.specs.MemberSets.{members_of}

-- whether one of so many hosts, from the first on, is in the set
unfoldable pub has_some_of : List Bool → ℕ → ℕ → Bool
has_some_of set first zero = false
has_some_of set first (suc n) = is_in set first || has_some_of set (suc first) n

-- those of the groups, in their order, that have a host of the block
abbrev pub with_some : GroupsOf → ℕ → List GroupNo → List GroupNo
with_some groups block order = filter (λ g. has_some_of (members_of groups g.0) (64 * block) 64) order

-- a list for each block, and the last block may have fewer hosts
abbrev pub AreBlocks : GroupsOf → List GroupNo → List (List GroupNo) → Type 0
AreBlocks groups order blocks = (length blocks ≡ (groups.hosts + 63) / 64) × ((k : ℕ) → k < length blocks → slice_index_or blocks k [] ≡ with_some groups k order)
