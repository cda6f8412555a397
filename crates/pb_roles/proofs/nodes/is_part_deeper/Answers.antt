use Rattle.pb_play.specs.View.{written_of}
use Rattle.pb_roles.specs.Seen.{depth_in_all}
use Rattle.pb_roles.proofs.Trees.{part_all, part_here, part_more}
use Rattle.pb_roles.proofs.nodes.is_part_deeper.Goals as goal

pub loop-section-preserved : goal.loop-section-preserved
loop-section-preserved c =
    part_more c.args.sections.now c.loop-section.section-index c.section-item.result (written_of c.nodes_in.result.now) c.args.levels (depth_in_all c.args.sections.now) c.loop-section-test.true
    c.section-item.is c.nodes_in.ensures (c.are_deeper.ensures.within c.if-are_deeper.false) c.loop-section.invariant

pub returns-clause-within : goal.returns-clause-within
returns-clause-within c = λ _. part_all c.args.sections.now c.loop-section.section-index c.args.levels (depth_in_all c.args.sections.now) c.loop-section-test.false c.loop-section.invariant

pub returns-then-are_deeper-clause-deeper : goal.returns-then-are_deeper-clause-deeper
returns-then-are_deeper-clause-deeper c =
    λ _. part_here c.args.sections.now c.loop-section.section-index c.section-item.result (written_of c.nodes_in.result.now) c.args.levels (depth_in_all c.args.sections.now) c.loop-section-test.true
    c.section-item.is c.nodes_in.ensures (c.are_deeper.ensures.deeper c.if-are_deeper.true) c.loop-section.invariant
