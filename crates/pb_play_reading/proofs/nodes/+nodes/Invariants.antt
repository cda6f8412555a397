use Rattle.std.proofs.Common.{◌≡◌, ◌+◌, ◌*◌, drop}
use Rattle.serde_json.specs.View.{items_view}
use Rattle.pb_play_reading.specs.NodeLists.{node, each_node, inner}
use Rattle.pb_play_reading.proofs.Written.{rest_of}
use Rattle.pb_play_reading.proofs.nodes.+nodes.Given as goal

abbrev pub invariant-read_each-loop-i : goal.invariant-read_each-loop-i
invariant-read_each-loop-i l =
    each_node (node (inner l.left)) l.fn.path 0 (items_view l.items) ≡ rest_of (node (inner l.left)) l.fn.path l.i (items_view (drop l.i l.items)) l.nodes.items

abbrev pub decreases-read_inner : goal.decreases-read_inner
decreases-read_inner l = 8 * l.left

abbrev pub decreases-read_node : goal.decreases-read_node
decreases-read_node l = 8 * l.left + 1

abbrev pub decreases-read_at : goal.decreases-read_at
decreases-read_at l = 8 * l.left + 2

abbrev pub decreases-read_each : goal.decreases-read_each
decreases-read_each l = 8 * l.left + 3

abbrev pub decreases-read_nodes : goal.decreases-read_nodes
decreases-read_nodes l = 8 * l.left + 4

abbrev pub decreases-read_part : goal.decreases-read_part
decreases-read_part l = 8 * l.left + 5

abbrev pub decreases-read_early : goal.decreases-read_early
decreases-read_early l = 8 * l.left + 6

abbrev pub decreases-read_block : goal.decreases-read_block
decreases-read_block l = 8 * l.left + 7
