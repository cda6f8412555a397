use Rattle.std.proofs.Common.{◌∙◌, ap}
use Rattle.std.proofs.lemmas.Result.{IfOk-weaker}
use Rattle.pb_value.specs.Datum.{value_at}
use Rattle.pb_inventory.proofs.Lasts.{last_wins}
use Rattle.pb_inventory.proofs.inventory.Inventory.group_vars.Goals as goal

pub returns-clause-last : goal.returns-clause-last
returns-clause-last c = IfOk-weaker c.joined.result _ _ (λ vars is name. ap (value_at name) is ∙ last_wins c.args.self.now name c.args.host.0) c.joined.ensures
