use Rattle.std.proofs.Common.{◌∙◌, arith}
use Rattle.std.proofs.lemmas.Grind.{common_steps}
use Rattle.std.proofs.lemmas.Result.{IfOk-weaker, IfErr-weaker}
use Rattle.pb_inventory.specs.Reading.{inventory_of}
use Rattle.pb_inventory.proofs.Spelt.{spelt_is}
use Rattle.pb_inventory.proofs.inventory.Inventory.spelt.Goals as goal

pub returns-in-Ok-clause-value : goal.returns-in-Ok-clause-value
returns-in-Ok-clause-value c = IfOk-weaker c.told.result _ _ (λ v h. spelt_is c.args.bytes.now _ c.in-Ok.ensures.value ∙ h) c.told.ensures.value

pub returns-in-Ok-clause-fault : goal.returns-in-Ok-clause-fault
returns-in-Ok-clause-fault c = IfErr-weaker c.told.result _ _ (λ e h other. spelt_is c.args.bytes.now _ c.in-Ok.ensures.value ∙ h other) c.told.ensures.fault

pub returns-in-Err-NotJson-clause-fault : goal.returns-in-Err-NotJson-clause-fault
unfolding inventory_of
returns-in-Err-NotJson-clause-fault c = grind (arith, common_steps)
