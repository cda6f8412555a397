use Rattle.std.proofs.Common.{drop, ◌+◌, subst, sym}
use Rattle.serde_json.specs.Data as json
use Rattle.serde_json.specs.View.{view, items_view, members_view}
use Rattle.pb_play_reading.specs.NodeLists.{node, each_node, inner}
use Rattle.pb_play_reading.specs.Returned.{IsRead}
use Rattle.pb_play_reading.proofs.Refusable.{next_left}
use Rattle.pb_play_reading.proofs.Written.{inner_is, node_taken, nodes_read, none_left}
use Rattle.pb_play_reading.proofs.nodes.+nodes.Goals as goal

pub read_each-loop-i-preserved : goal.read_each-loop-i-preserved
read_each-loop-i-preserved t c =
    node_taken (node (inner c.args.left)) c.args.path.now c.loop-i.i (view c.index-items-i.result) (items_view (drop (c.loop-i.i + 1) c.args.items.now)) (items_view (drop c.loop-i.i c.args.items.now))
    c.loop-i.nodes.items c.push.new.self.items c.in_ok-read_at.field-0 (each_node (node (inner c.args.left)) c.args.path.now 0 (items_view c.args.items.now))
    (next_left c.args.items.now c.loop-i.i c.index-items-i.result c.loop-i-test.true c.index-items-i.is) c.in_ok-push.ensures.items c.loop-i.invariant c.in_ok-read_at.ensures

pub read_each-returns : goal.read_each-returns
read_each-returns t c =
    nodes_read (node (inner c.args.left)) c.args.path.now c.loop-i.i (items_view (drop c.loop-i.i c.args.items.now)) c.loop-i.nodes.items
    (each_node (node (inner c.args.left)) c.args.path.now 0 (items_view c.args.items.now)) (none_left c.args.items.now c.loop-i.i c.loop-i-test.false) c.loop-i.invariant

pub read_inner-returns : goal.read_inner-returns
read_inner-returns t c =
    subst (λ reads. IsRead c.read_block.result (reads c.args.path.now (json.object (members_view c.args.members.now.entries)))) (sym (inner_is c.args.left c.if-left-eq0.false)) c.read_block.ensures
