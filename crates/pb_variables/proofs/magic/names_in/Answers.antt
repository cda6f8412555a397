use Rattle.std.proofs.Common.{arith, refl}
use Rattle.std.proofs.lemmas.Grind.{common_steps}
use Rattle.pb_planes.specs.Set.{is_in}
use Rattle.pb_inventory.specs.Vars.{host_name}
use Rattle.pb_inventory.proofs.Ranges.{map_next}
use Rattle.pb_variables.proofs.magic.names_in.Goals as goal

pub loop-n-preserved : goal.loop-n-preserved
loop-n-preserved c = rw (map_next (host_name c.args.inventory.now) (is_in c.args.hosts.now) c.loop-n.n _ refl) (grind (arith, common_steps))
