use Rattle.std.proofs.Common.{◌≡◌, ◌∙◌, List, true, subst, sym}
use Rattle.pb_host.specs.Host.{HostOf}
use Rattle.pb_host.specs.Runs.{has_send}
use Rattle.pb_hosts.specs.Hosts.{at_row}
use Rattle.pb_hosts.proofs.Asked.{sent_due}
use Rattle.pb_hosts.proofs.hosts.send_row.Goals as goal

-- memory was refused: the list is as it was
pub invariant_of-rows : goal.invariant_of-rows
invariant_of-rows c =
    record { sending = c.rows.invariant.sending; stands = c.rows.invariant.stands; insiders = c.rows.invariant.insiders; waiting = c.rows.invariant.waiting; outsiders = c.rows.invariant.outsiders; in_order = c.in_err-put_job.ensures.err ∙ c.rows.invariant.in_order }

pub invariant_of-rows-2 : goal.invariant_of-rows-2
invariant_of-rows-2 c =
    sent_due c.args.ticket c.args.host c.rows.inside.sends c.ask_one.new.sends c.rows.inside.standings c.ask_one.new.standings c.rows.inside.batch c.rows.inside.awaits_batch c.rows.inside.out.items c.put_job.new.all.items c.rows.inside.rows.items c.send_row.new.rows.items
    (subst (λ (all : List HostOf). at_row has_send all c.args.host.0 ≡ true) (sym c.rows.view_is) c.requires)
    c.rows.invariant
    c.send_row.ensures
    c.ask_one.ensures.sends
    c.ask_one.ensures.stands
    c.in_ok-put_job.ensures.ok
