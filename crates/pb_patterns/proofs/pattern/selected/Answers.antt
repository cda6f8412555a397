use Rattle.std.proofs.Common.{ap, sym, refl, ◌∙◌, length}
use Rattle.pb_patterns.proofs.SetLaws.{length-each_host}
use Rattle.pb_patterns.proofs.Chosen.{selecting_begun, selecting_more, selecting_whole}
use Rattle.pb_patterns.specs.declared.selected.Selected.{Selected}
use Rattle.pb_patterns.proofs.pattern.selected.Goals as goal

pub loop-element-init : goal.loop-element-init
loop-element-init c =
    selecting_begun c.args.inventory.now c.hosts.result c.in_ok-choice.choice c.new-unmatched.result c.hosts.ensures.count c.in_ok-choice.ensures c.new-unmatched.ensures

pub add-requires-clause-joined : goal.add-requires-clause-joined
add-requires-clause-joined c = ap length c.loop-element.invariant.0.0 ∙ length-each_host _ _ ∙ sym c.in_ok-set.ensures.width

pub add-requires-clause-met : goal.add-requires-clause-met
add-requires-clause-met c = ap length c.loop-element.invariant.0.1 ∙ length-each_host _ _ ∙ sym c.in_ok-set.ensures.width

pub add-requires-clause-excluded : goal.add-requires-clause-excluded
add-requires-clause-excluded c = ap length c.loop-element.invariant.0.2 ∙ length-each_host _ _ ∙ sym c.in_ok-set.ensures.width

pub loop-element-preserved : goal.loop-element-preserved
loop-element-preserved c =
    selecting_more c.args.inventory.now c.args.elements.now c.loop-element.element-index _ c.element-item.result c.in_ok-set.set c.loop-element.choice c.add.new.self c.loop-element.unmatched
    c.push_unmatched.new.unmatched refl c.loop-element-test.true c.element-item.is c.in_ok-set.ensures.width c.in_ok-set.ensures.set c.add.ensures c.in_ok-push_unmatched.ensures c.loop-element.invariant

pub hosts-requires-3-clause-joined : goal.hosts-requires-3-clause-joined
hosts-requires-3-clause-joined c = ap length c.loop-element.invariant.0.0 ∙ length-each_host _ _ ∙ sym c.hosts-2.ensures.count

pub hosts-requires-3-clause-met : goal.hosts-requires-3-clause-met
hosts-requires-3-clause-met c = ap length c.loop-element.invariant.0.1 ∙ length-each_host _ _ ∙ sym c.hosts-2.ensures.count

pub hosts-requires-3-clause-excluded : goal.hosts-requires-3-clause-excluded
hosts-requires-3-clause-excluded c = ap length c.loop-element.invariant.0.2 ∙ length-each_host _ _ ∙ sym c.hosts-2.ensures.count

pub returns-clause-selection : goal.returns-clause-selection
returns-clause-selection c =
    selecting_whole c.args.inventory.now c.args.elements.now c.loop-element.element-index c.hosts-2.result c.loop-element.choice c.in_ok-hosts.hosts c.loop-element.unmatched c.loop-element-test.false
    c.hosts-2.ensures.count c.in_ok-hosts.ensures c.loop-element.invariant

pub returns-clause-width : goal.returns-clause-width
returns-clause-width c =
    let whole =
    selecting_whole c.args.inventory.now c.args.elements.now c.loop-element.element-index c.hosts-2.result c.loop-element.choice c.in_ok-hosts.hosts c.loop-element.unmatched c.loop-element-test.false
    c.hosts-2.ensures.count c.in_ok-hosts.ensures c.loop-element.invariant in
    ap (λ (s : Selected). length s.hosts) whole ∙ length-each_host _ _
