use Rattle.std.proofs.Common.{arith}
use Rattle.std.proofs.lemmas.Grind.{common_steps}
use Rattle.pb_inventory.proofs.Once.{with_names-append, with_names-none}
use Rattle.pb_inventory.proofs.numbering.host_names_of.Goals as goal

pub loop-group-init : goal.loop-group-init
loop-group-init c = grind (arith, common_steps, with_names-none)

pub loop-group-preserved : goal.loop-group-preserved
loop-group-preserved c = grind (arith, common_steps, with_names-append)
