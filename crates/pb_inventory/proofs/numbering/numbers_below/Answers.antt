use Rattle.std.proofs.Common.{arith, refl}
use Rattle.std.proofs.lemmas.Grind.{common_steps}
use Rattle.pb_inventory.proofs.Ranges.{range_next}
use Rattle.pb_inventory.proofs.numbering.numbers_below.Goals as goal

pub loop-n-preserved : goal.loop-n-preserved
loop-n-preserved c = rw (range_next c.loop-n.n _ refl) (grind (arith, common_steps))
