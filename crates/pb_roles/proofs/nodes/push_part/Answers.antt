use Rattle.std.proofs.Common.{subst}
use Rattle.pb_roles.specs.Seen.{AddsNodes}
use Rattle.pb_roles.proofs.Trees.{section_added, part_added}
use Rattle.pb_roles.proofs.nodes.push_part.Goals as goal

pub loop-section-preserved : goal.loop-section-preserved
loop-section-preserved c =
    section_added c.args.nodes.now.items c.loop-section.nodes.items c.push_all.new.nodes.items c.args.sections.now c.loop-section.section-index c.section-item.result c.args.sections.now
    c.loop-section-test.true c.section-item.is c.loop-section.invariant
    (subst (AddsNodes c.loop-section.nodes.items c.push_all.new.nodes.items) c.nodes_in.ensures c.in_ok-push_all.ensures)

pub returns : goal.returns
returns c =
    part_added c.args.nodes.now.items c.loop-section.nodes.items c.push.new.self.items c.args.sections.now c.loop-section.section-index c.loop-section-test.false c.loop-section.invariant
    c.in_ok-push.ensures.items
