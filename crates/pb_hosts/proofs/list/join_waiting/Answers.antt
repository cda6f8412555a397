use Rattle.std.proofs.Common.{◌∙◌, length, map, refl, ap, sym}
use Rattle.std.specs.Prelude.{None}
use Rattle.pb_host.specs.Host.{is_waiting}
use Rattle.pb_host.specs.Walking.{with_walk}
use Rattle.pb_hosts.specs.Due.{is_inside}
use Rattle.pb_hosts.proofs.Asked.{width_is}
use Rattle.pb_hosts.proofs.Joined.{out_twice, out_waits, joined_then}
use Rattle.pb_hosts.proofs.Members.{none_of}
use Rattle.pb_hosts.proofs.list.join_waiting.Goals as goal

pub empty_by-requires : goal.empty_by-requires
empty_by-requires c = width_is is_inside c.args.rows.now.items c.args.batch.now c.requires.insiders ∙ sym (width_is is_waiting c.args.rows.now.items c.args.awaits_batch.now c.requires.awaits_batch)

pub join_each-requires-clause-awaits_batch : goal.join_each-requires-clause-awaits_batch
join_each-requires-clause-awaits_batch c =
    out_waits c.args.rows.now.items c.step_out.new.rows.items c.args.awaits_batch.now c.requires.awaits_batch c.step_out.ensures

pub join_each-requires-clause-nobody : goal.join_each-requires-clause-nobody
join_each-requires-clause-nobody c = out_twice c.args.rows.now.items c.step_out.new.rows.items c.step_out.ensures

pub join_each-requires-clause-insiders : goal.join_each-requires-clause-insiders
join_each-requires-clause-insiders c =
    c.empty_by.ensures
    ∙ none_of (with_walk None) is_inside (λ row. refl) c.args.rows.now.items (length c.args.batch.now)
    (width_is is_inside c.args.rows.now.items c.args.batch.now c.requires.insiders)
    ∙ ap (map is_inside) (sym c.step_out.ensures)

pub returns-clause-rows : goal.returns-clause-rows
returns-clause-rows c =
    joined_then c.args.walks.items c.args.rows.now.items c.step_out.new.rows.items c.join_each.new.rows.items c.step_out.ensures c.join_each.ensures.rows
