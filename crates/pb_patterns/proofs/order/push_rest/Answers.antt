use Rattle.std.proofs.Common.{arith, refl}
use Rattle.std.proofs.lemmas.Grind.{common_steps}
use Rattle.pb_patterns.proofs.SetLaws.{filter_next}
use Rattle.pb_patterns.proofs.order.push_rest.Goals as goal

pub loop-host-preserved : goal.loop-host-preserved
loop-host-preserved c = rw (filter_next _ c.loop-host.host _ refl) (grind (arith, common_steps))
