use Rattle.std.proofs.Common.{◌≡◌, [], map, arith}
use Rattle.std.proofs.lemmas.Grind.{common_steps}
use Rattle.pb_roles.specs.Building.{task_of}
use Rattle.pb_roles.proofs.Placed.{tasks_all, tasks_more}
use Rattle.pb_roles.proofs.flush.all_tasks.Goals as goal

pub loop-handler-preserved : goal.loop-handler-preserved
loop-handler-preserved c =
    tasks_more c.args.keys c.loop-handler.tasks c.push.new.self (map (task_of c.args.keys) c.args.handlers) c.loop-handler.handler-iterator.rest.items c.next.new.self.rest.items c.in-Some.handler
    c.in_ok-task_of.field-0 c.in-Some.ensures.steps.0 c.in_ok-task_of.ensures c.in_ok-push.ensures.ok c.loop-handler.invariant

pub returns : goal.returns
returns c =
    let none : c.loop-handler.handler-iterator.rest.items ≡ [] = grind (arith, common_steps) in
    tasks_all c.args.keys c.loop-handler.tasks (map (task_of c.args.keys) c.args.handlers) c.loop-handler.handler-iterator.rest.items none c.loop-handler.invariant
