-- The batches of a play (Ansible's documentation, "Controlling playbook execution: strategies and more", "Setting the batch size with serial").
use Rattle.std.specs.Prelude.{ℕ, ◌-◌, nat_lt, Bool, true, false, ◌&&◌, List, [], ◌∷◌, count_by, if◌then◌else◌}
use Rattle.pb_tree.specs.Tree.{TreeOf}
use Rattle.pb_host.specs.Host.{HostOf, is_play_host, joined}

-- whether batches of these sizes are left
abbrev pub has_batch_left : List ℕ → Bool
has_batch_left [] = false
has_batch_left (size ∷ sizes_left) = true

-- how many of a play's own hosts are active
abbrev pub play_host_count : List Bool → List HostOf → ℕ
play_host_count hosts rows = count_by (is_play_host hosts) rows

-- whether a host joins a batch that has room for so many more, and for how many it has room behind it
abbrev pub joins : ℕ → Bool → Bool
joins room awaits_batch = awaits_batch && nat_lt 0 room

abbrev pub room_behind : ℕ → Bool → ℕ
room_behind room awaits_batch = if joins room awaits_batch then room - 1 else room

-- a batch of this size opens: the first so many of the hosts that wait join it
abbrev pub joined_first : TreeOf → ℕ → List HostOf → List HostOf
joined_first tree room [] = []
joined_first tree room (row ∷ rows) = joined tree (joins room row.awaits_batch) row ∷ joined_first tree (room_behind room row.awaits_batch) rows
