use Rattle.std.proofs.Common.{◌∙◌, List, length, map, refl, ap, subst, sym}
use Rattle.pb_host.specs.Host.{HostOf, is_waiting, left}
use Rattle.pb_host.specs.Runs.{has_send}
use Rattle.pb_host.specs.Standing.{standing}
use Rattle.pb_hosts.specs.Oldest.{all_out}
use Rattle.pb_hosts.specs.Due.{is_inside, AreOutside}
use Rattle.pb_hosts.proofs.Asked.{width_is, waits_left}
use Rattle.pb_hosts.proofs.Members.{none_of}
use Rattle.pb_hosts.proofs.Outside.{out_left}
use Rattle.pb_hosts.proofs.TicketOrder.{left_order}
use Rattle.pb_hosts.proofs.hosts.leave_all.Goals as goal

pub minus_with-requires : goal.minus_with-requires
minus_with-requires c =
    width_is is_waiting c.rows.inside.rows.items c.rows.inside.awaits_batch c.rows.invariant.waiting ∙ sym (width_is is_inside c.rows.inside.rows.items c.rows.inside.batch c.rows.invariant.insiders)

pub invariant_of-rows : goal.invariant_of-rows
invariant_of-rows c =
    record {
      sending =
          c.empty_by.ensures ∙ none_of left has_send (λ row. refl) c.rows.inside.rows.items (length c.rows.inside.sends) (width_is has_send c.rows.inside.rows.items c.rows.inside.sends c.rows.invariant.sending)
          ∙ sym (ap (map has_send) c.leave_inside.ensures);
      stands = c.stand_left.ensures ∙ ap (λ (rows : List HostOf). map standing (map left rows)) c.as_slice.ensures.value ∙ sym (ap (map standing) c.leave_inside.ensures);
      insiders =
          c.empty_by-2.ensures ∙ none_of left is_inside (λ row. refl) c.rows.inside.rows.items (length c.rows.inside.batch) (width_is is_inside c.rows.inside.rows.items c.rows.inside.batch c.rows.invariant.insiders)
          ∙ sym (ap (map is_inside) c.leave_inside.ensures);
      waiting =
          waits_left c.rows.inside.awaits_batch c.rows.inside.batch c.minus_with.new.self c.rows.inside.rows.items c.leave_inside.new.rows.items c.rows.invariant.waiting c.rows.invariant.insiders c.minus_with.ensures c.leave_inside.ensures;
      outsiders = subst AreOutside (sym c.leave_inside.ensures) (out_left c.rows.inside.rows.items);
      in_order = c.clear.ensures.items ∙ sym (ap all_out c.leave_inside.ensures ∙ left_order 0 c.rows.inside.rows.items);
    }
