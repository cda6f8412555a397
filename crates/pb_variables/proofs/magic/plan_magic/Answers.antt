use Rattle.std.proofs.lemmas.Result.{IfOk-weaker}
use Rattle.pb_variables.proofs.Named.{groups_by_name}
use Rattle.pb_variables.proofs.magic.plan_magic.Goals as goal

pub returns-clause-groups : goal.returns-clause-groups
returns-clause-groups c = IfOk-weaker c.plan_maps.result _ _ (λ known is. groups_by_name c.args.inventory.now known is) c.plan_maps.ensures
