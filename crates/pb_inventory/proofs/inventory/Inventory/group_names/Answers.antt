use Rattle.std.proofs.Common.{arith, refl}
use Rattle.std.proofs.lemmas.Grind.{common_steps}
use Rattle.pb_inventory.specs.Vars.{is_named, group_name}
use Rattle.pb_inventory.proofs.Ranges.{map_next}
use Rattle.pb_inventory.proofs.inventory.Inventory.group_names.Goals as goal

pub loop-n-preserved : goal.loop-n-preserved
loop-n-preserved c = rw (map_next (group_name c.args.self.now) (is_named c.args.self.now c.args.host.0) c.loop-n.n _ refl) (grind (arith, common_steps))
