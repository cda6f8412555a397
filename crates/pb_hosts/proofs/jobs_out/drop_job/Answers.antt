use Rattle.std.proofs.Common.{rules, ◌∙◌}
use Rattle.pb_hosts.proofs.TicketOrder.{cut_there}
use Rattle.pb_hosts.proofs.jobs_out.drop_job.Goals as goal

pub returns-in-Some : goal.returns-in-Some
returns-in-Some c = c.remove-job.ensures.items ∙ cut_there c.args.host.0 c.args.all.now.items c.in-Some.at (search rules)
