use Rattle.pb_play.specs.View.{written_of}
use Rattle.pb_roles.specs.LinearKeys.{stands_in}
use Rattle.pb_roles.proofs.Standing.{stands_here, stands_more, stands_nowhere}
use Rattle.pb_roles.proofs.linear_keys.+stands.Goals as goal

pub stands_in-loop-node-preserved : goal.stands_in-loop-node-preserved
stands_in-loop-node-preserved t c =
    stands_more c.args.key c.args.nodes.now c.loop-node.node-index c.node-item.result c.stands_at.result (stands_in c.args.key (written_of c.args.nodes.now)) c.loop-node-test.true c.node-item.is
    c.stands_at.ensures c.if-stands_at.false c.loop-node.invariant

pub stands_in-returns-then-stands_at : goal.stands_in-returns-then-stands_at
stands_in-returns-then-stands_at t c =
    stands_here c.args.key c.args.nodes.now c.loop-node.node-index c.node-item.result c.stands_at.result (stands_in c.args.key (written_of c.args.nodes.now)) c.loop-node-test.true c.node-item.is
    c.stands_at.ensures c.if-stands_at.true c.loop-node.invariant

pub stands_in-returns : goal.stands_in-returns
stands_in-returns t c = stands_nowhere c.args.key c.args.nodes.now c.loop-node.node-index (stands_in c.args.key (written_of c.args.nodes.now)) c.loop-node-test.false c.loop-node.invariant
