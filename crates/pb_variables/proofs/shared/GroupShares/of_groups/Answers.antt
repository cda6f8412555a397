use Rattle.std.proofs.Common.{◌∙◌, ap}
use Rattle.std.proofs.lemmas.Result.{IfOk-weaker}
use Rattle.pb_value.specs.Datum.{value_at}
use Rattle.pb_inventory.proofs.Lasts.{last_wins}
use Rattle.pb_variables.specs.declared.shared.OfGroups.{OfGroups}
use Rattle.pb_variables.proofs.shared.GroupShares.of_groups.Goals as goal

pub returns-clause-last : goal.returns-clause-last
returns-clause-last c =
    IfOk-weaker c.lent.result _ _ (λ of is name. ap (λ (given : OfGroups). value_at name given.variables) is ∙ last_wins c.args.inventory.now name c.args.host.0) c.lent.ensures
