use Rattle.pb_play.specs.View.{written_of}
use Rattle.pb_roles.specs.Seen.{depth_in}
use Rattle.pb_roles.proofs.Trees.{depth_all, depth_here, depth_more}
use Rattle.pb_roles.proofs.nodes.+depth.Goals as goal

pub are_deeper-loop-node-preserved : goal.are_deeper-loop-node-preserved
are_deeper-loop-node-preserved t c =
    depth_more c.args.written.now c.loop-node.node-index c.node-item.result c.args.levels (depth_in (written_of c.args.written.now)) c.loop-node-test.true c.node-item.is
    (c.is_deeper.ensures.within c.if-is_deeper.false) c.loop-node.invariant

pub are_deeper-returns-clause-within : goal.are_deeper-returns-clause-within
are_deeper-returns-clause-within t c = λ _. depth_all c.args.written.now c.loop-node.node-index c.args.levels (depth_in (written_of c.args.written.now)) c.loop-node-test.false c.loop-node.invariant

pub are_deeper-returns-then-is_deeper-clause-deeper : goal.are_deeper-returns-then-is_deeper-clause-deeper
are_deeper-returns-then-is_deeper-clause-deeper t c =
    λ _. depth_here c.args.written.now c.loop-node.node-index c.node-item.result c.args.levels (depth_in (written_of c.args.written.now)) c.loop-node-test.true c.node-item.is
    (c.is_deeper.ensures.deeper c.if-is_deeper.true) c.loop-node.invariant
