use Rattle.std.proofs.Common.{◌≤◌, arith}
use Rattle.pb_play.specs.Nodes.{Nothing}
use Rattle.pb_play.specs.View.{node_of, written_of}
use Rattle.pb_roles.proofs.Placed.{weight, weight_turn}
use Rattle.pb_roles.proofs.Trees.{one_added, part_is}
use Rattle.pb_roles.proofs.nodes.+nodes.Goals as goal

pub part-returns : goal.part-returns
part-returns t c = part_is c.new-nodes.result.items c.push_all.new.nodes.items _ c.new-nodes.ensures.items c.in_ok-push_all.ensures

pub push_all-one-requires : goal.push_all-one-requires
push_all-one-requires t c =
    let less : weight (node_of c.node-item.result Nothing) ≤ weight (written_of c.args.written.now) =
    weight_turn c.args.written.now c.loop-node.node-index c.node-item.result c.loop-node-test.true c.node-item.is in
    (omega (arith, c.decreases, less), tt)

pub push_all-loop-node-preserved : goal.push_all-loop-node-preserved
push_all-loop-node-preserved t c =
    one_added c.args.nodes.now.items c.loop-node.nodes.items c.push.new.self.items c.args.written.now c.loop-node.node-index c.node-item.result c.in_ok-one.one _ c.loop-node-test.true c.node-item.is
    c.loop-node.invariant c.in_ok-one.ensures c.in_ok-push.ensures.items
