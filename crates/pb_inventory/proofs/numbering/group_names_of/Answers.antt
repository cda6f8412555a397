use Rattle.std.proofs.Common.{arith}
use Rattle.std.proofs.lemmas.Grind.{common_steps}
use Rattle.pb_inventory.specs.Graph.{mentioned_groups}
use Rattle.pb_inventory.proofs.Once.{all_in_place-append, group_names_begun}
use Rattle.pb_inventory.proofs.numbering.group_names_of.Goals as goal

pub loop-group-init : goal.loop-group-init
loop-group-init c = group_names_begun (mentioned_groups c.args.listed.now) _ c.in_ok-names.ensures

pub loop-group-preserved : goal.loop-group-preserved
loop-group-preserved c = grind (arith, common_steps, all_in_place-append)
