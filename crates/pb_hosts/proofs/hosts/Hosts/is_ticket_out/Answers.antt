use Rattle.std.proofs.Common.{◌∙◌, List, ap}
use Rattle.std.specs.List.{list_any}
use Rattle.pb_host.specs.Runs.{has_ticket}
use Rattle.pb_hosts.specs.Oldest.{is_under}
use Rattle.pb_host.specs.Host.{HostOf}
use Rattle.pb_hosts.proofs.TicketOrder.{under_out}
use Rattle.pb_hosts.proofs.hosts.Hosts.is_ticket_out.Goals as goal

pub returns : goal.returns
returns c =
    c.some_under.ensures
    ∙ ap (list_any (is_under c.args.ticket)) (c.as_slice.ensures.value ∙ c.self.invariant.in_order)
    ∙ under_out c.args.ticket c.self.inside.rows.items
    ∙ ap (λ (rows : List HostOf). list_any (has_ticket c.args.ticket) rows) c.self.view_is
