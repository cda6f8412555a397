use Rattle.std.proofs.lemmas.Result.{IfOk-weaker}
use Rattle.pb_variables.specs.Learnt.{facts_in}
use Rattle.pb_variables.proofs.Named.{hostvars_by_name}
use Rattle.pb_variables.proofs.hostvars.hostvars.Goals as goal

pub returns-clause-hosts : goal.returns-clause-hosts
returns-clause-hosts c =
    IfOk-weaker c.hosts_value.result _ _ (λ hosts is. hostvars_by_name c.args.inventory.now c.args.extra.now (facts_in c.args.learnt.now) hosts is) c.hosts_value.ensures
