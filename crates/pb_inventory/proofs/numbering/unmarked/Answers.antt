use Rattle.std.proofs.Common.{arith, refl}
use Rattle.std.proofs.lemmas.Grind.{common_steps}
use Rattle.pb_inventory.proofs.Ranges.{filter_next}
use Rattle.pb_inventory.proofs.numbering.unmarked.Goals as goal

pub loop-n-preserved : goal.loop-n-preserved
loop-n-preserved c = rw (filter_next _ c.loop-n.n _ refl) (grind (arith, common_steps))
