use Rattle.std.proofs.Common.{◌≡◌, ◌≤◌, [], ap, arith}
use Rattle.std.proofs.lemmas.Grind.{common_steps}
use Rattle.std.proofs.lemmas.Result.{IfOk-weaker}
use Rattle.pb_play.specs.Nodes.{Nothing}
use Rattle.pb_play.specs.View.{node_of, written_of}
use Rattle.pb_roles.specs.Building.{Flushed}
use Rattle.pb_roles.proofs.Placed.{all_placed, block_placed, flush_placed, node_placed, task_placed, weight, weight_block, weight_here, weight_later}
use Rattle.pb_roles.proofs.placing.+placing.Goals as goal

pub push_one-returns-in_ok-push_all-in-Block-2 : goal.push_one-returns-in_ok-push_all-in-Block-2
push_one-returns-in_ok-push_all-in-Block-2 t c =
    IfOk-weaker c.push_all-in-Block-2.result _ _
    (λ _ last.
    block_placed c.args.flushes.now c.args.inherited.now c.in_ok-inside-in-Block.inside c.args.is_caught c.is_caught_in-is_rescued.result c.args.places.now.items c.push_all.new.places.items c.push_all-in-Block.new.places.items
    c.push_all-in-Block-2.new.places.items c.args.node c.in-Block.keys c.in-Block.body c.in-Block.rescue c.in-Block.always c.in-Block.is c.in_ok-inside-in-Block.ensures (rw c.deref.ensures.value at c.is_caught_in-is_rescued.ensures)
    c.in_ok-push_all-in-Block.ensures c.in_ok-push_all-in-Block-2.ensures last)
    c.push_all-in-Block-2.ensures

pub push_all-loop-node-preserved : goal.push_all-loop-node-preserved
push_all-loop-node-preserved t c = record {
  placed =
      node_placed c.args.flushes.now c.args.inherited.now c.args.is_caught c.args.places.now.items c.loop-node.places.items c.push_one.new.places.items c.loop-node.node-iterator.rest.items
      c.next.new.self.rest.items c.in-Some.node (written_of c.args.nodes.items) c.in-Some.ensures.steps.0 c.loop-node.invariant.placed c.in_ok-push_one.ensures;
  less =
      weight_later c.loop-node.node-iterator.rest.items c.next.new.self.rest.items c.in-Some.node (weight (written_of c.args.nodes.items)) c.in-Some.ensures.steps.0 c.loop-node.invariant.less;
}

pub push_all-returns : goal.push_all-returns
push_all-returns t c =
    let none : c.loop-node.node-iterator.rest.items ≡ [] = grind (arith, common_steps) in
    all_placed c.args.flushes.now c.args.inherited.now c.args.is_caught c.args.places.now.items c.loop-node.places.items c.loop-node.node-iterator.rest.items (written_of c.args.nodes.items) none
    c.loop-node.invariant.placed

pub push_all-push_one-requires : goal.push_all-push_one-requires
push_all-push_one-requires t c =
    let less : weight (node_of c.in-Some.node Nothing) ≤ weight (written_of c.args.nodes.items) =
    weight_here c.loop-node.node-iterator.rest.items c.next.new.self.rest.items c.in-Some.node (weight (written_of c.args.nodes.items)) c.in-Some.ensures.steps.0 c.loop-node.invariant.less in
    (omega (arith, c.decreases, less), tt)

pub push_one-push_all-requires : goal.push_one-push_all-requires
push_one-push_all-requires t c =
    let parts = weight_block c.args.node c.in-Block.keys c.in-Block.body c.in-Block.rescue c.in-Block.always c.in-Block.is in
    (omega (arith, c.decreases, parts), tt)

pub push_one-push_all-requires-in-Block : goal.push_one-push_all-requires-in-Block
push_one-push_all-requires-in-Block t c =
    let parts = weight_block c.args.node c.in-Block.keys c.in-Block.body c.in-Block.rescue c.in-Block.always c.in-Block.is in
    (omega (arith, c.decreases, parts), tt)

pub push_one-push_all-requires-in-Block-2 : goal.push_one-push_all-requires-in-Block-2
push_one-push_all-requires-in-Block-2 t c =
    let parts = weight_block c.args.node c.in-Block.keys c.in-Block.body c.in-Block.rescue c.in-Block.always c.in-Block.is in
    (omega (arith, c.decreases, parts), tt)

pub push_one-returns-in-Task : goal.push_one-returns-in-Task
push_one-returns-in-Task t c =
    IfOk-weaker c.push_task.result _ _
    (λ _ is.
    task_placed c.args.flushes.now c.flushes.inside.names c.args.inherited.now c.args.is_caught c.args.places.now.items c.push_task.new.places.items c.args.node c.in-Task.task c.in-Task.is
    (ap (λ (f : Flushed). f.names) c.flushes.view_is) is)
    c.push_task.ensures

pub push_one-returns-in-Flush : goal.push_one-returns-in-Flush
push_one-returns-in-Flush t c =
    IfOk-weaker c.push_flush.result _ _
    (λ _ is. flush_placed c.args.flushes.now c.args.inherited.now c.args.is_caught c.args.places.now.items c.push_flush.new.places.items c.args.node c.in-Flush.is is)
    c.push_flush.ensures
