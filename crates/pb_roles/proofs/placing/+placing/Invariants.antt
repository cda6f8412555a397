use Rattle.std.proofs.Common.{◌≡◌, ◌≤◌, ◌+◌, ◌*◌, ◌++◌}
use Rattle.pb_play.specs.Nodes.{Nothing}
use Rattle.pb_play.specs.View.{node_of, written_of}
use Rattle.pb_roles.specs.Building.{places_of}
use Rattle.pb_roles.proofs.Placed.{weight}
use Rattle.pb_roles.proofs.placing.+placing.Given as goal

abbrev pub decreases-push_all : goal.decreases-push_all
decreases-push_all l = 2 * weight (written_of l.nodes.items) + 1

abbrev pub decreases-push_one : goal.decreases-push_one
decreases-push_one l = 2 * weight (node_of l.node Nothing)

abbrev pub invariant-push_all-loop-node : goal.invariant-push_all-loop-node
invariant-push_all-loop-node l = record {
  placed : l.places.items ++ places_of l.flushes l.inherited l.is_caught (written_of l.node-iterator.rest.items) ≡ l.fn.places.items ++ places_of l.flushes l.inherited l.is_caught (written_of l.fn.nodes.items);
  less : weight (written_of l.node-iterator.rest.items) ≤ weight (written_of l.fn.nodes.items);
}
