use Rattle.std.proofs.Common.{◌∙◌, refl, arith, length-set}
use Rattle.pb_groups.proofs.Raising.{raising_begun, raising_passes, raising_raises}
use Rattle.pb_groups.proofs.depths.raise.Goals as goal
use Rattle.pb_groups.proofs.depths.raise.Goals.{then-depths-link, else-depths-link}

pub loop-link-init : goal.loop-link-init
loop-link-init c = (refl, raising_begun _ _ _ c.requires.level)

pub loop-link-preserved : goal.loop-link-preserved
loop-link-preserved c = elim c.if-depths-link.branch [
  | then-depths-link w ↦ rw (w.depths-is, w.raised-is) (length-set _ _ _ ∙ c.loop-link.invariant.0, raising_raises _ _ _ _ _ c.loop-link-test.true (omega (arith, (c.requires.within _ c.loop-link-test.true).1, c.loop-link.invariant.0)) w.if-depths-link.true c.loop-link.invariant.1)
  | else-depths-link w ↦ rw (w.depths-is, w.raised-is) (c.loop-link.invariant.0, raising_passes _ _ _ _ _ w.if-depths-link.false c.loop-link.invariant.1)
]
