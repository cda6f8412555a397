use Rattle.std.proofs.Common.{◌≡◌, ℕ, subst, sym}
use Rattle.pb_hosts.proofs.Members.{stood, stood_step, stood_end}
use Rattle.pb_hosts.proofs.inside.stand_inside.Goals as goal

pub loop-host-preserved : goal.loop-host-preserved
loop-host-preserved c =
    subst (λ (n : ℕ). c.stand_one.new.standings ≡ stood n c.args.rows.now) (sym c.behind-from.ensures)
    (stood_step c.args.rows.now c.loop-host.standings c.stand_one.new.standings c.args.batch.now c.loop-host.from c.in-Some.host.0 c.requires.insiders c.requires.outsiders c.in-Some.ensures.some c.loop-host.invariant
    c.stand_one.ensures)

pub returns : goal.returns
returns c =
    stood_end c.args.rows.now c.loop-host.standings c.args.batch.now c.loop-host.from c.requires.insiders c.requires.outsiders c.in_default.ensures.none c.loop-host.invariant
