use Rattle.std.proofs.Common.{◌≡◌, ◌∙◌, ℕ, map, ap, subst, sym}
use Rattle.std.specs.Prelude.{slice_set}
use Rattle.pb_strategies.specs.declared.standings.Standing.{Standing}
use Rattle.pb_host.specs.Host.{left}
use Rattle.pb_host.specs.Standing.{standing}
use Rattle.pb_hosts.proofs.Members.{part, stand_step, stand_end}
use Rattle.pb_hosts.proofs.inside.stand_left.Goals as goal

pub loop-host-preserved : goal.loop-host-preserved
loop-host-preserved c =
    subst (λ (n : ℕ). c.put.new.self ≡ map standing (part left n c.args.rows.now)) (sym c.behind-from.ensures)
    (stand_step c.args.rows.now c.loop-host.standings c.put.new.self c.args.batch.now c.loop-host.from c.in-Some.host.0 c.requires.insiders c.requires.outsiders c.in-Some.ensures.some c.loop-host.invariant
    (c.put.ensures ∙ ap (λ (where_now : Standing). slice_set c.loop-host.standings c.in-Some.host.0 where_now) c.nowhere.ensures))

pub returns : goal.returns
returns c =
    stand_end c.args.rows.now c.loop-host.standings c.args.batch.now c.loop-host.from c.requires.insiders c.requires.outsiders c.in_default.ensures.none c.loop-host.invariant
