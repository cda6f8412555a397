-- How lists of nodes are read: tasks, blocks and tasks that steer the run. See Ansible's documentation, "Playbook Keywords" and "Blocks".
use Rattle.std.specs.Prelude.{ℕ, zero, suc, ◌+◌, Bool, false, ◌||◌, List, Ok, Err, codes, decimal, if◌then◌else◌}
use Rattle.std.specs.Str.{bytes_eq}
use Rattle.serde_json.specs.Data as json
use Rattle.pb_value.specs.Reading.{and_then, map_ok, below}
use Rattle.pb_reading.specs.Reading.{Reading, Own, wrong}
use Rattle.pb_play_reading.specs.Blocks.{Lists, block}
use Rattle.pb_play_reading.specs.MetaTasks.{meta}
use Rattle.pb_play_reading.specs.Modules.{names}
use Rattle.pb_play.specs.Nodes.{Written, Nothing, Task, followed}
use Rattle.pb_play_reading.specs.Tasks.{task}
use Rattle.pb_written.specs.declared.fault.Limit.TheVariants.{Blocks}
use Rattle.pb_written.specs.declared.fault.LoadFault.{LoadFault}
use Rattle.pb_written.specs.declared.fault.LoadFault.TheVariants.{TooLarge}

-- such a key stands in an object
abbrev pub has : (List ℕ → Bool) → json.Members → Bool
has is json.no_members = false
has is (json.member k d ms) = is k || has is ms

-- the keys by which a node is known
abbrev pub names_block : List ℕ → Bool
names_block k = bytes_eq k (codes "block")

abbrev pub names_meta : List ℕ → Bool
names_meta k = names k (codes "meta")

-- A node is known by its key: a block has `block`, a task that steers the run has `meta`. What stands at blocks reads a block.
abbrev pub node : Lists → List ℕ → json.Data → Reading Written LoadFault
node blocks path (json.object ms) =
    if has names_block ms then blocks path (json.object ms)
    else (if has names_meta ms then meta path (json.object ms) else map_ok (λ t. Task t Nothing) (task path (json.object ms)))
node blocks path d = wrong path

-- the nodes of a list, from the one numbered i on
abbrev pub each_node : Lists → List ℕ → ℕ → json.Items → Reading Written LoadFault
each_node reads path i json.no_items = Ok Nothing
each_node reads path i (json.item d ds) = and_then (reads (below path (decimal i)) d) (λ n. map_ok (followed n) (each_node reads path (i + 1) ds))

-- a list whose members are read so, one behind another; what is no list has the wrong shape
abbrev pub nodes_of : Lists → Lists
nodes_of reads path (json.array ds) = each_node reads path 0 ds
nodes_of reads path d = wrong path

-- blocks inside one another that are too many: nothing in such a block is looked at
abbrev pub too_deep : Lists
too_deep path d = Err (Own (TooLarge Blocks path))

-- a block in a list in which so many blocks may stand inside one another: in its own lists there is room for one fewer
abbrev pub inner : ℕ → Lists
inner zero = too_deep
inner (suc left) = block (nodes_of (node (inner left)))

-- a list of nodes, in which so many blocks may stand inside one another
unfoldable pub nodes : ℕ → Lists
nodes left = nodes_of (node (inner left))

-- how many blocks may stand inside one another
abbrev pub max_blocks : ℕ
max_blocks = 32

-- a list of nodes, as plays and roles have it
abbrev pub node_list : Lists
node_list = nodes max_blocks
