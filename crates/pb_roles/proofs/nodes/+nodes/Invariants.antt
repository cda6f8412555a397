use Rattle.std.proofs.Common.{◌≡◌, ◌+◌, ◌*◌, drop}
use Rattle.pb_play.specs.Nodes.{Nothing}
use Rattle.pb_play.specs.View.{node_of, written_of}
use Rattle.pb_tree.specs.Tree.{Nodes}
use Rattle.pb_roles.specs.Building.{nodes_then}
use Rattle.pb_roles.specs.Seen.{in_front}
use Rattle.pb_roles.proofs.Placed.{weight}
use Rattle.pb_roles.proofs.nodes.+nodes.Given as goal

abbrev pub decreases-part : goal.decreases-part
decreases-part l = 3 * weight (written_of l.written.now) + 2

abbrev pub decreases-push_all : goal.decreases-push_all
decreases-push_all l = 3 * weight (written_of l.written.now) + 1

abbrev pub decreases-one : goal.decreases-one
decreases-one l = 3 * weight (node_of l.written.now Nothing)

abbrev pub invariant-push_all-loop-node : goal.invariant-push_all-loop-node
invariant-push_all-loop-node l =
    (rest : Nodes) → in_front l.nodes.items (nodes_then (written_of (drop l.node-index l.written)) rest) ≡ in_front l.fn.nodes.items (nodes_then (written_of l.written) rest)
