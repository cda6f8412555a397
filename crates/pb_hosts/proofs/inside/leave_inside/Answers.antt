use Rattle.std.proofs.Common.{◌≡◌, ℕ, subst, sym}
use Rattle.pb_host.specs.Host.{left}
use Rattle.pb_hosts.proofs.Members.{part, left_spares, part_step, part_end}
use Rattle.pb_hosts.proofs.inside.leave_inside.Goals as goal

pub loop-host-preserved : goal.loop-host-preserved
loop-host-preserved c =
    subst (λ (n : ℕ). c.leave_at.new.rows.items ≡ part left n c.args.rows.now.items) (sym c.behind-from.ensures)
    (part_step left left_spares c.args.rows.now.items c.loop-host.rows.items c.leave_at.new.rows.items c.args.batch.now c.loop-host.from c.in-Some.host.0 c.requires.insiders c.requires.outsiders c.in-Some.ensures.some
    c.loop-host.invariant
    c.leave_at.ensures)

pub returns : goal.returns
returns c =
    part_end left left_spares c.args.rows.now.items c.loop-host.rows.items c.args.batch.now c.loop-host.from c.requires.insiders c.requires.outsiders c.in_default.ensures.none c.loop-host.invariant
