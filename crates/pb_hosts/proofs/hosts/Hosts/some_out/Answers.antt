use Rattle.std.proofs.Common.{◌∙◌}
use Rattle.pb_hosts.proofs.TicketOrder.{out_is_some}
use Rattle.pb_hosts.proofs.hosts.Hosts.some_out.Goals as goal

pub returns : goal.returns
returns c = c.is_some.ensures ∙ out_is_some c.args.self.now c.oldest_out.result c.oldest_out.ensures
