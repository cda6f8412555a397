use Rattle.pb_play.specs.View.{written_of}
use Rattle.pb_roles.specs.Seen.{places_in}
use Rattle.pb_roles.proofs.Trees.{left_all, left_more}
use Rattle.pb_roles.proofs.nodes.+count.Goals as goal

pub places_left-loop-node-preserved : goal.places_left-loop-node-preserved
places_left-loop-node-preserved t c =
    left_more c.args.handlers c.args.written.now c.loop-node.node-index c.node-item.result c.args.places c.loop-node.left c.in_ok-left.left (places_in c.args.handlers (written_of c.args.written.now))
    c.loop-node-test.true c.node-item.is c.in_ok-left.ensures.some c.loop-node.invariant

pub places_left-returns : goal.places_left-returns
places_left-returns t c = record {
  some =
      left_all c.args.handlers c.args.written.now c.loop-node.node-index c.args.places c.loop-node.left (places_in c.args.handlers (written_of c.args.written.now)) c.loop-node-test.false
      c.loop-node.invariant;
  none = tt;
}
