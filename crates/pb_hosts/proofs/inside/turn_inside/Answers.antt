use Rattle.std.proofs.Common.{◌≡◌, ℕ, subst, sym}
use Rattle.pb_hosts.specs.TurnMade.{turning_row}
use Rattle.pb_hosts.proofs.Members.{part, part_step, part_end}
use Rattle.pb_hosts.proofs.Turns.{turning_spares}
use Rattle.pb_hosts.proofs.inside.turn_inside.Goals as goal

pub loop-host-preserved : goal.loop-host-preserved
loop-host-preserved c =
    subst (λ (n : ℕ). c.turn_at.new.rows.items ≡ part (turning_row c.args.turning) n c.args.rows.now.items) (sym c.behind-from.ensures)
    (part_step (turning_row c.args.turning) (turning_spares c.args.turning) c.args.rows.now.items c.loop-host.rows.items c.turn_at.new.rows.items c.args.batch.now c.loop-host.from c.in-Some.host.0 c.requires.insiders c.requires.outsiders
    c.in-Some.ensures.some c.loop-host.invariant c.turn_at.ensures)

pub returns : goal.returns
returns c =
    part_end (turning_row c.args.turning) (turning_spares c.args.turning) c.args.rows.now.items c.loop-host.rows.items c.args.batch.now c.loop-host.from c.requires.insiders c.requires.outsiders c.in_default.ensures.none c.loop-host.invariant
