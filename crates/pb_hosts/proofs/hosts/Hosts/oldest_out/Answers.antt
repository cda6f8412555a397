use Rattle.std.proofs.Common.{◌∙◌, List, ap}
use Rattle.std.specs.Prelude.{slice_get}
use Rattle.pb_ids.specs.declared.numbers.HostNo.{HostNo}
use Rattle.pb_ids.specs.declared.numbers.Ticket.{Ticket}
use Rattle.pb_hosts.specs.Oldest.{oldest_out}
use Rattle.pb_hosts.proofs.TicketOrder.{oldest_first}
use Rattle.pb_hosts.proofs.hosts.Hosts.oldest_out.Goals as goal

pub returns : goal.returns
returns c =
    c.first_job.ensures
    ∙ ap (λ (jobs : List (HostNo × Ticket)). slice_get jobs 0) (c.as_slice.ensures.value ∙ c.self.invariant.in_order)
    ∙ oldest_first c.self.inside.rows.items
    ∙ ap oldest_out c.self.view_is
