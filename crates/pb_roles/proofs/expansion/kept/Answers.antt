use Rattle.std.proofs.Common.{◌≡◌, [], arith}
use Rattle.std.proofs.lemmas.Grind.{common_steps}
use Rattle.pb_roles.proofs.Each.{kept_all, marks_end, taken}
use Rattle.pb_roles.proofs.expansion.kept.Goals as goal

pub returns-in_default : goal.returns-in_default
returns-in_default c =
    let none : c.loop-is_kept.rest ≡ [] = grind (arith, common_steps) in kept_all c.loop-is_kept.all c.loop-is_kept.rest c.args.handlers _ c.args.marks.now none c.loop-is_kept.invariant

pub loop-is_kept-preserved : goal.loop-is_kept-preserved
loop-is_kept-preserved c =
    taken c.loop-is_kept.all c.push_if.new.all c.loop-is_kept.rest c.pop.new.self c.args.handlers c.in-Some.handler c.args.marks.now c.loop-is_kept.is_kept-index c.loop-is_kept-test.true
    c.in-Some.ensures.some c.in_ok-push_if.ensures c.loop-is_kept.invariant

pub returns : goal.returns
returns c = marks_end c.loop-is_kept.all c.loop-is_kept.rest c.args.handlers c.args.marks.now c.loop-is_kept.is_kept-index c.loop-is_kept-test.false c.loop-is_kept.invariant
