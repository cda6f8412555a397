use Rattle.pb_handlers.proofs.Bits.{one_unmarked, all_unmarked}
use Rattle.pb_handlers.proofs.marks.unmark_all.Goals as goal

pub loop-mark-preserved : goal.loop-mark-preserved
loop-mark-preserved c = one_unmarked c.args.marks.now c.loop-mark.marks c.loop-mark.mark-index c.loop-mark-test.true c.loop-mark.invariant

pub returns : goal.returns
returns c = all_unmarked c.args.marks.now c.loop-mark.marks c.loop-mark.mark-index c.loop-mark-test.false c.loop-mark.auto.mark-index-end c.loop-mark.invariant
