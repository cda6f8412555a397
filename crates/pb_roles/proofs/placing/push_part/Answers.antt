use Rattle.std.proofs.Common.{◌≡◌, [], arith}
use Rattle.std.proofs.lemmas.Grind.{common_steps}
use Rattle.std.proofs.lemmas.Result.{IfOk-weaker}
use Rattle.pb_roles.proofs.Placed.{section_placed, part_placed}
use Rattle.pb_roles.proofs.placing.push_part.Goals as goal

pub loop-section-preserved : goal.loop-section-preserved
loop-section-preserved c =
    section_placed c.args.flushes.now c.args.keys c.args.places.now.items c.loop-section.places.items c.push_section.new.places.items c.loop-section.section-iterator.rest.items
    c.next.new.self.rest.items c.args.sections c.in-Some.section c.in-Some.ensures.steps.0 c.loop-section.invariant c.in_ok-push_section.ensures

pub returns : goal.returns
returns c =
    let none : c.loop-section.section-iterator.rest.items ≡ [] = grind (arith, common_steps) in
    IfOk-weaker c.push_flush.result _ _
    (λ _ is.
    part_placed c.args.flushes.now c.args.keys c.args.places.now.items c.loop-section.places.items c.push_flush.new.places.items c.loop-section.section-iterator.rest.items c.args.sections none
    c.loop-section.invariant is)
    c.push_flush.ensures
