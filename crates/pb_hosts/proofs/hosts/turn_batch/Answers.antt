use Rattle.std.proofs.Common.{◌∙◌, List, map, ap, subst, sym}
use Rattle.pb_host.specs.Host.{HostOf, left}
use Rattle.pb_host.specs.Standing.{standing}
use Rattle.pb_hosts.specs.Due.{is_inside, AreOutside}
use Rattle.pb_hosts.proofs.Turns.{inside_applied, stand_applied, out_applied, inside_turned, out_turning, nowhere_turned, turning_learns}
use Rattle.pb_hosts.proofs.hosts.turn_batch.Goals as goal

pub stand_left-requires-clause-insiders : goal.stand_left-requires-clause-insiders
stand_left-requires-clause-insiders c =
    inside_applied c.parts-all.result.0.items c.args.batch.now c.args.rows.now.items c.apply_each.new.rows.items c.requires.insiders c.in_ok-learnt.ensures.ok ∙ sym (ap (map is_inside) c.as_slice.ensures.value)

pub stand_left-requires-clause-outsiders : goal.stand_left-requires-clause-outsiders
stand_left-requires-clause-outsiders c =
    subst AreOutside (sym c.as_slice.ensures.value) (out_applied c.parts-all.result.0.items c.args.rows.now.items c.apply_each.new.rows.items c.requires.outsiders c.in_ok-learnt.ensures.ok)

pub stand_left-requires-clause-stands : goal.stand_left-requires-clause-stands
stand_left-requires-clause-stands c =
    stand_applied c.parts-all.result.0.items c.args.standings.now c.args.rows.now.items c.apply_each.new.rows.items c.requires.stands c.in_ok-learnt.ensures.ok ∙ sym (ap (map standing) c.as_slice.ensures.value)

pub turn_inside-requires-clause-insiders : goal.turn_inside-requires-clause-insiders
turn_inside-requires-clause-insiders c =
    inside_applied c.parts-all.result.0.items c.args.batch.now c.args.rows.now.items c.apply_each.new.rows.items c.requires.insiders c.in_ok-learnt.ensures.ok

pub turn_inside-requires-clause-outsiders : goal.turn_inside-requires-clause-outsiders
turn_inside-requires-clause-outsiders c =
    out_applied c.parts-all.result.0.items c.args.rows.now.items c.apply_each.new.rows.items c.requires.outsiders c.in_ok-learnt.ensures.ok

pub stand_inside-requires-clause-insiders : goal.stand_inside-requires-clause-insiders
stand_inside-requires-clause-insiders c =
    inside_turned c.parts-all.result.1 c.args.batch.now c.apply_each.new.rows.items c.turn_inside.new.rows.items
    (inside_applied c.parts-all.result.0.items c.args.batch.now c.args.rows.now.items c.apply_each.new.rows.items c.requires.insiders c.in_ok-learnt.ensures.ok) c.turn_inside.ensures
    ∙ sym (ap (map is_inside) c.as_slice-2.ensures.value)

pub stand_inside-requires-clause-outsiders : goal.stand_inside-requires-clause-outsiders
stand_inside-requires-clause-outsiders c =
    subst AreOutside (sym c.as_slice-2.ensures.value)
    (out_turning c.parts-all.result.1 c.apply_each.new.rows.items c.turn_inside.new.rows.items
    (out_applied c.parts-all.result.0.items c.args.rows.now.items c.apply_each.new.rows.items c.requires.outsiders c.in_ok-learnt.ensures.ok) c.turn_inside.ensures)

pub stand_inside-requires-clause-nowhere : goal.stand_inside-requires-clause-nowhere
stand_inside-requires-clause-nowhere c =
    nowhere_turned c.parts-all.result.1 c.stand_left.new.standings c.apply_each.new.rows.items c.as_slice-2.result.now
    (c.stand_left.ensures ∙ ap (λ (rows : List HostOf). map standing (map left rows)) c.as_slice.ensures.value)
    (c.as_slice-2.ensures.value ∙ c.turn_inside.ensures)

pub returns-clause-learnt : goal.returns-clause-learnt
returns-clause-learnt c =
    turning_learns c.in_ok-learnt.learnt.items c.parts-all.result.1 c.args.rows.now.items c.apply_each.new.rows.items c.turn_inside.new.rows.items c.in_ok-learnt.ensures.past c.turn_inside.ensures
