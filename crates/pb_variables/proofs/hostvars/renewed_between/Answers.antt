use Rattle.pb_variables.proofs.Between.{nothing_between}
use Rattle.pb_variables.proofs.Followed.{variables_follow}
use Rattle.pb_variables.proofs.hostvars.renewed_between.Goals as goal

pub returns-in-Nothing-clause-value : goal.returns-in-Nothing-clause-value
returns-in-Nothing-clause-value c =
    nothing_between c.args.inventory.now c.args.extra.now c.args.learner.now.past.now c.args.learner.now.facts.now c.args.learner.now.host.0 c.args.hosts c.in-Nothing.is

pub returns-in-Nothing-clause-names : goal.returns-in-Nothing-clause-names
returns-in-Nothing-clause-names c = variables_follow c.args.inventory.now c.args.extra.now c.args.learner.now.past.now c.args.learner.now.facts.now c.args.learner.now.host.0

pub returns-in_default-clause-names : goal.returns-in_default-clause-names
returns-in_default-clause-names c = variables_follow c.args.inventory.now c.args.extra.now c.args.learner.now.past.now c.args.learner.now.facts.now c.args.learner.now.host.0
