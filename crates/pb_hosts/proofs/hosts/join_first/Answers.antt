use Rattle.std.proofs.Common.{◌∙◌, ℕ, replicate, ap, subst, sym}
use Rattle.pb_strategies.specs.Hosts.{nowhere}
use Rattle.pb_host.specs.Runs.{has_send}
use Rattle.pb_host.specs.Standing.{standing}
use Rattle.pb_hosts.specs.Batches.{joined_first}
use Rattle.pb_hosts.specs.Oldest.{all_out}
use Rattle.pb_hosts.specs.Due.{AreOutside}
use Rattle.pb_hosts.proofs.Asked.{width_is}
use Rattle.pb_hosts.proofs.Joined.{few_walks, joined_as, joined_waits}
use Rattle.pb_hosts.proofs.Outside.{out_joined}
use Rattle.pb_hosts.proofs.TicketOrder.{joined_order}
use Rattle.pb_hosts.proofs.hosts.join_first.Goals as goal

-- memory was refused: nobody stands elsewhere
pub invariant_of-rows : goal.invariant_of-rows
invariant_of-rows c =
    record {
      sending = c.rows.invariant.sending;
      stands = c.in_err-clear.ensures.err ∙ c.rows.invariant.stands;
      insiders = c.rows.invariant.insiders;
      waiting = c.rows.invariant.waiting;
      outsiders = c.rows.invariant.outsiders;
      in_order = c.rows.invariant.in_order;
    }

pub open_batch-requires-clause-few : goal.open_batch-requires-clause-few
open_batch-requires-clause-few c = few_walks c.args.laid.now.value.tree c.args.size c.rows.inside.awaits_batch c.in_ok-walks.walks.items c.in_ok-walks.ensures

pub open_batch-requires-clause-sends : goal.open_batch-requires-clause-sends
open_batch-requires-clause-sends c = width_is has_send c.rows.inside.rows.items c.rows.inside.sends c.rows.invariant.sending

pub open_batch-requires-clause-stands : goal.open_batch-requires-clause-stands
open_batch-requires-clause-stands c = c.in_ok-clear.ensures.ok ∙ ap (λ (n : ℕ). replicate n nowhere) (width_is standing c.rows.inside.rows.items c.rows.inside.standings c.rows.invariant.stands)

pub invariant_of-rows-2 : goal.invariant_of-rows-2
invariant_of-rows-2 c =
    record {
      sending = c.open_batch.ensures.sends;
      stands = c.open_batch.ensures.stands;
      insiders = c.open_batch.ensures.batch;
      waiting = joined_waits c.in_ok-walks.walks.items c.rows.inside.rows.items c.open_batch.new.rows.items c.rows.inside.awaits_batch c.rows.invariant.waiting c.open_batch.ensures.rows;
      outsiders = subst AreOutside (sym c.open_batch.ensures.rows) (out_joined c.in_ok-walks.walks.items c.rows.inside.rows.items);
      in_order = c.clear-2.ensures.items ∙ sym (ap all_out c.open_batch.ensures.rows ∙ joined_order 0 c.in_ok-walks.walks.items c.rows.inside.rows.items);
    }

pub returns-clause-ok : goal.returns-clause-ok
returns-clause-ok c =
    joined_as c.args.laid.now.value.tree c.args.size c.rows.inside.rows.items c.open_batch.new.rows.items c.rows.inside.awaits_batch c.in_ok-walks.walks.items c.rows.invariant.waiting c.in_ok-walks.ensures c.open_batch.ensures.rows
    ∙ ap (joined_first c.args.laid.now.value.tree c.args.size) c.rows.view_is
