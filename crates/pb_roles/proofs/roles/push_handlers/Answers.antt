use Rattle.std.proofs.Common.{◌≡◌, ◌++◌, [], arith}
use Rattle.std.proofs.lemmas.Grind.{common_steps}
use Rattle.pb_roles.specs.Expansion.{handlers_in}
use Rattle.pb_roles.proofs.Stack.{handlers_all, handlers_more}
use Rattle.pb_roles.proofs.roles.push_handlers.Goals as goal

pub loop-handler-preserved : goal.loop-handler-preserved
loop-handler-preserved c =
    handlers_more c.args.origin.now c.loop-handler.all c.push.new.self (c.args.all.now ++ handlers_in c.args.origin.now c.args.handlers) c.loop-handler.handler-iterator.rest.items
    c.next.new.self.rest.items c.in-Some.handler c.in_ok-origin.origin c.in-Some.ensures.steps.0 c.in_ok-origin.ensures c.in_ok-push.ensures.ok c.loop-handler.invariant

pub returns : goal.returns
returns c =
    let none : c.loop-handler.handler-iterator.rest.items ≡ [] = grind (arith, common_steps) in
    handlers_all c.args.origin.now c.loop-handler.all (c.args.all.now ++ handlers_in c.args.origin.now c.args.handlers) c.loop-handler.handler-iterator.rest.items none c.loop-handler.invariant
