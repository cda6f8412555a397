use Rattle.pb_roles.proofs.Each.{gives_count, gives_fault, gives_fit, gives_value}
use Rattle.pb_roles.proofs.expansion.expand.Goals as goal

pub returns-clause-value : goal.returns-clause-value
returns-clause-value c = gives_value c.each_expanded.result _ c.each_expanded.ensures

pub returns-clause-fit : goal.returns-clause-fit
returns-clause-fit c = gives_fit c.args.files.now c.args.playbook.plays c.each_expanded.result c.each_expanded.ensures

pub returns-clause-count : goal.returns-clause-count
returns-clause-count c = gives_count c.args.files.now c.args.playbook.plays c.each_expanded.result c.each_expanded.ensures

pub returns-clause-fault : goal.returns-clause-fault
returns-clause-fault c = gives_fault c.each_expanded.result _ c.each_expanded.ensures
