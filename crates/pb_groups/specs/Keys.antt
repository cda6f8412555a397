-- The keys by which groups are put in order, and the groups whose sets have a host.
use Rattle.std.specs.Prelude.{ℕ, zero, suc, ℤ, pos, Bool, List, [], filter, slice_index, slice_index_or}
use Rattle.std.specs.BTreeSet.{insert_key}
use Rattle.pb_ids.specs.declared.numbers.GroupNo.{GroupNo}
use Rattle.pb_planes.specs.Set.{is_in}
use Rattle.pb_groups.specs.declared.merging.MergeKey.{MergeKey}
use Rattle.pb_groups.specs.Members.{plane_at}
use Rattle.pb_groups.specs.Merging.{key_cmp}

-- what a group is ordered by, where these are the depths and priorities of the groups by number; where it has no priority, by 0
abbrev pub key_at : List ℕ → List ℤ → ℕ → MergeKey
key_at depths priorities group = record { depth = slice_index depths group; priority = slice_index_or priorities group (pos 0); group = group }

-- the keys of the first so many groups, in order
abbrev pub keys_to : List ℕ → List ℤ → ℕ → List MergeKey
keys_to depths priorities zero = []
keys_to depths priorities (suc n) = insert_key key_cmp (keys_to depths priorities n) (key_at depths priorities n)

-- the groups whose sets have the host
abbrev pub has_host : List (List Bool) → ℕ → List GroupNo → List GroupNo
has_host planes host order = filter (λ g. is_in (plane_at planes g.0) host) order
