use Rattle.std.proofs.Common.{◌≡◌, ℕ, subst, sym}
use Rattle.std.specs.Option.{option_copied}
use Rattle.pb_hosts.specs.Applied.{with_update}
use Rattle.pb_hosts.specs.TurnMade.{copy_applied}
use Rattle.pb_hosts.proofs.Members.{part, part_end}
use Rattle.pb_hosts.proofs.Turns.{applied_spares, applied_step}
use Rattle.pb_hosts.proofs.turned.Copied.update_inside.Goals as goal

pub loop-host-preserved : goal.loop-host-preserved
loop-host-preserved c =
    subst (λ (n : ℕ). with_update c.push.new.self.items c.args.rows.now ≡ part (copy_applied c.args.self.now.inventory.now c.args.self.now.play.now c.args.self.now.place (option_copied c.args.self.now.from)) n c.args.rows.now) (sym c.behind-from.ensures)
    (applied_step c.args.self.now.inventory.now c.args.self.now.play.now c.args.self.now.place (option_copied c.args.self.now.from) c.args.rows.now c.args.batch.now c.loop-host.from c.in-Some.host c.in_ok-update.update c.loop-host.all.items c.push.new.self.items c.requires.insiders
    c.requires.outsiders c.in-Some.ensures.some c.in_ok-update.ensures c.in_ok-push.ensures.items c.loop-host.invariant)

pub returns : goal.returns
returns c =
    part_end (copy_applied c.args.self.now.inventory.now c.args.self.now.play.now c.args.self.now.place (option_copied c.args.self.now.from)) (applied_spares c.args.self.now.inventory.now c.args.self.now.play.now c.args.self.now.place (option_copied c.args.self.now.from)) c.args.rows.now (with_update c.loop-host.all.items c.args.rows.now)
    c.args.batch.now c.loop-host.from c.requires.insiders c.requires.outsiders c.in_default.ensures.none c.loop-host.invariant
