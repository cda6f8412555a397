use Rattle.std.proofs.Common.{◌≡◌, drop}
use Rattle.pb_play.specs.View.{written_of}
use Rattle.pb_roles.specs.Unknown.{unknown_in}
use Rattle.pb_roles.proofs.unknown.+unknown.Given as goal

abbrev pub invariant-in_nodes-loop-node : goal.invariant-in_nodes-loop-node
invariant-in_nodes-loop-node l = unknown_in l.names (written_of l.nodes) ≡ unknown_in l.names (written_of (drop l.node-index l.nodes))
