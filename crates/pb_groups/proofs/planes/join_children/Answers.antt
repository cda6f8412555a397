use Rattle.std.proofs.Common.{◌∙◌, sym}
use Rattle.pb_groups.proofs.Filling.{filling_begun, filling_done, filling_passes, filling_joins}
use Rattle.pb_groups.proofs.planes.join_children.Goals as goal
use Rattle.pb_groups.proofs.planes.join_children.Goals.{then-ranks-link+in_ok-join, else-ranks-link}

pub loop-link-init : goal.loop-link-init
loop-link-init c = filling_begun _ _ _ _ _ _ c.requires.filled

pub join-requires-clause-width : goal.join-requires-clause-width
join-requires-clause-width c =
    c.loop-link.invariant.0.1 _ (c.requires.within _ c.loop-link-test.true).0 ∙ sym (c.loop-link.invariant.0.1 _ (c.requires.within _ c.loop-link-test.true).1)

pub loop-link-preserved : goal.loop-link-preserved
loop-link-preserved c = elim c.if-ranks-link.branch [
  | then-ranks-link+in_ok-join w ↦
      rw (w.planes-is, w.in_ok-join.ensures)
      (filling_joins _ _ _ _ _ _ _ c.loop-link-test.true c.requires.within c.requires.depths w.if-ranks-link.true c.loop-link.invariant)
  | else-ranks-link w ↦ rw w.planes-is (filling_passes _ _ _ _ _ _ _ w.if-ranks-link.false c.loop-link.invariant)
]

pub returns : goal.returns
returns c = filling_done _ _ _ _ _ _ _ c.loop-link-test.false c.loop-link.invariant
