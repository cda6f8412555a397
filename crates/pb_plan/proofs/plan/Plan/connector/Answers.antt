use Rattle.std.proofs.Common.{codes, ◌∙◌, ap}
use Rattle.std.proofs.lemmas.Result.{IfOk-weaker}
use Rattle.pb_value.specs.Datum.{value_at}
use Rattle.pb_inventory.specs.Vars.{vars_of_host}
use Rattle.pb_layers.specs.Merged.{merged}
use Rattle.pb_plan.specs.Plan.{PlanOf}
use Rattle.pb_plan.proofs.Connected.{connected}
use Rattle.pb_plan.proofs.plan.Plan.connector.Goals as goal

pub returns : goal.returns
returns c =
    IfOk-weaker c.connector.result _ _
    (λ words is.
    connected c.args.self.now.inventory c.args.host.0 c.host_vars.result.now (merged c.variables.result) words
    (c.host_vars.ensures ∙ ap (λ (plan : PlanOf). vars_of_host plan.inventory c.args.host.0) c.self.view_is)
    (ap (value_at (codes "pb_connector")) c.variables.ensures ∙ c.in_ok-groups.ensures.last (codes "pb_connector")) is)
    c.connector.ensures
