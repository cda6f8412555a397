use Rattle.std.proofs.Common.{◌≡◌, [], arith}
use Rattle.std.proofs.lemmas.Grind.{common_steps}
use Rattle.pb_roles.proofs.Each.{each_done, each_fault, each_next, stopped}
use Rattle.pb_roles.proofs.expansion.each_expanded.Goals as goal

pub returns-in_err-one : goal.returns-in_err-one
returns-in_err-one c =
    stopped _ c.in_err-one.field-0.0 _ c.from_residual.ensures.1
    (each_fault c.args.files.now c.args.plays c.loop-play.play-iterator.rest.items c.next.new.self.rest.items c.in-Some.play c.loop-play.all c.in_err-one.field-0.0
    c.in-Some.ensures.steps.0 c.in_err-one.ensures c.loop-play.invariant)

pub loop-play-preserved : goal.loop-play-preserved
loop-play-preserved c =
    each_next c.args.files.now c.args.plays c.loop-play.play-iterator.rest.items c.next.new.self.rest.items c.in-Some.play c.loop-play.all c.push.new.self c.in_ok-one.one
    c.in-Some.ensures.steps.0 c.in_ok-one.ensures c.in_ok-push.ensures.ok c.loop-play.invariant

pub returns : goal.returns
returns c =
    let none : c.loop-play.play-iterator.rest.items ≡ [] = grind (arith, common_steps) in
    each_done c.args.files.now c.args.plays c.loop-play.play-iterator.rest.items c.loop-play.all none c.loop-play.invariant
