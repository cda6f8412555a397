use Rattle.std.proofs.Common.{◌≡◌, ℕ, subst, sym}
use Rattle.std.specs.Prelude.{None}
use Rattle.pb_host.specs.Walking.{with_walk}
use Rattle.pb_hosts.proofs.Members.{part, out_spares, part_step, part_end}
use Rattle.pb_hosts.proofs.inside.step_out.Goals as goal

pub loop-host-preserved : goal.loop-host-preserved
loop-host-preserved c =
    subst (λ (n : ℕ). c.join_at.new.rows.items ≡ part (with_walk None) n c.args.rows.now.items) (sym c.behind-from.ensures)
    (part_step (with_walk None) out_spares c.args.rows.now.items c.loop-host.rows.items c.join_at.new.rows.items c.args.batch.now c.loop-host.from c.in-Some.host.0 c.requires.insiders c.requires.outsiders c.in-Some.ensures.some
    c.loop-host.invariant
    c.join_at.ensures)

pub returns : goal.returns
returns c =
    part_end (with_walk None) out_spares c.args.rows.now.items c.loop-host.rows.items c.args.batch.now c.loop-host.from c.requires.insiders c.requires.outsiders c.in_default.ensures.none c.loop-host.invariant
