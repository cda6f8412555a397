use Rattle.std.proofs.Common.{◌∙◌, ℕ, List, map, replicate, ap, subst, sym}
use Rattle.pb_strategies.specs.Hosts.{nowhere}
use Rattle.pb_host.specs.Host.{HostOf, as_play_begins}
use Rattle.pb_host.specs.Runs.{has_send}
use Rattle.pb_host.specs.Standing.{standing}
use Rattle.pb_hosts.specs.Batches.{joined_first}
use Rattle.pb_hosts.specs.Oldest.{all_out}
use Rattle.pb_hosts.specs.Due.{is_inside, AreOutside}
use Rattle.pb_hosts.proofs.Asked.{mapped_width, width_is, inside_called, waits_play_hosts}
use Rattle.pb_hosts.proofs.Joined.{few_walks, joined_as, joined_waits}
use Rattle.pb_hosts.proofs.Outside.{out_called, out_joined}
use Rattle.pb_hosts.proofs.TicketOrder.{joined_order}
use Rattle.pb_hosts.proofs.hosts.begin_first.Goals as goal

pub play_hosts_set-requires : goal.play_hosts_set-requires
play_hosts_set-requires c = c.width-width.ensures ∙ width_is is_inside c.rows.inside.rows.items c.rows.inside.batch c.rows.invariant.insiders

-- memory was refused: nobody stands elsewhere
pub invariant_of-rows : goal.invariant_of-rows
invariant_of-rows c =
    record {
      sending = c.rows.invariant.sending;
      stands = c.in_err-clear.ensures.err ∙ c.rows.invariant.stands;
      insiders = c.rows.invariant.insiders;
      waiting = c.rows.invariant.waiting;
      outsiders = c.rows.invariant.outsiders;
      in_order = c.rows.invariant.in_order;
    }

pub open_batch-requires-clause-awaits_batch : goal.open_batch-requires-clause-awaits_batch
open_batch-requires-clause-awaits_batch c = waits_play_hosts c.args.hosts.now c.in_ok-calls.calls c.rows.inside.rows.items c.begin_all.new.rows.items c.in_ok-calls.ensures c.begin_all.ensures

pub open_batch-requires-clause-few : goal.open_batch-requires-clause-few
open_batch-requires-clause-few c = few_walks c.args.laid.now.value.tree c.args.size c.in_ok-calls.calls c.in_ok-walks.walks.items c.in_ok-walks.ensures

pub open_batch-requires-clause-insiders : goal.open_batch-requires-clause-insiders
open_batch-requires-clause-insiders c = inside_called c.args.hosts.now c.rows.inside.batch c.rows.inside.rows.items c.begin_all.new.rows.items c.rows.invariant.insiders c.begin_all.ensures

pub open_batch-requires-clause-outsiders : goal.open_batch-requires-clause-outsiders
open_batch-requires-clause-outsiders c = out_called c.args.hosts.now c.rows.inside.rows.items c.begin_all.new.rows.items c.rows.invariant.outsiders c.begin_all.ensures

pub open_batch-requires-clause-sends : goal.open_batch-requires-clause-sends
open_batch-requires-clause-sends c = mapped_width has_send (as_play_begins c.args.hosts.now) c.rows.inside.rows.items c.begin_all.new.rows.items c.rows.inside.sends c.rows.invariant.sending c.begin_all.ensures

pub open_batch-requires-clause-stands : goal.open_batch-requires-clause-stands
open_batch-requires-clause-stands c =
    c.in_ok-clear.ensures.ok
    ∙ ap (λ (n : ℕ). replicate n nowhere) (mapped_width standing (as_play_begins c.args.hosts.now) c.rows.inside.rows.items c.begin_all.new.rows.items c.rows.inside.standings c.rows.invariant.stands c.begin_all.ensures)

pub invariant_of-rows-2 : goal.invariant_of-rows-2
invariant_of-rows-2 c =
    record {
      sending = c.open_batch.ensures.sends;
      stands = c.open_batch.ensures.stands;
      insiders = c.open_batch.ensures.batch;
      waiting = joined_waits c.in_ok-walks.walks.items c.begin_all.new.rows.items c.open_batch.new.rows.items c.in_ok-calls.calls
          (waits_play_hosts c.args.hosts.now c.in_ok-calls.calls c.rows.inside.rows.items c.begin_all.new.rows.items c.in_ok-calls.ensures c.begin_all.ensures) c.open_batch.ensures.rows;
      outsiders = subst AreOutside (sym c.open_batch.ensures.rows) (out_joined c.in_ok-walks.walks.items c.begin_all.new.rows.items);
      in_order = c.clear-2.ensures.items ∙ sym (ap all_out c.open_batch.ensures.rows ∙ joined_order 0 c.in_ok-walks.walks.items c.begin_all.new.rows.items);
    }

pub returns-clause-ok : goal.returns-clause-ok
returns-clause-ok c =
    joined_as c.args.laid.now.value.tree c.args.size c.begin_all.new.rows.items c.open_batch.new.rows.items c.in_ok-calls.calls c.in_ok-walks.walks.items
    (waits_play_hosts c.args.hosts.now c.in_ok-calls.calls c.rows.inside.rows.items c.begin_all.new.rows.items c.in_ok-calls.ensures c.begin_all.ensures)
    c.in_ok-walks.ensures
    c.open_batch.ensures.rows
    ∙ ap (joined_first c.args.laid.now.value.tree c.args.size) c.begin_all.ensures
    ∙ ap (λ (all : List HostOf). joined_first c.args.laid.now.value.tree c.args.size (map (as_play_begins c.args.hosts.now) all)) c.rows.view_is
