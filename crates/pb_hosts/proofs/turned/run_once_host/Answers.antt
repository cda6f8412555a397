use Rattle.std.proofs.Common.{◌≡◌, ◌∙◌, ℕ, drop, subst, sym}
use Rattle.pb_hosts.specs.Turn.{run_once_host}
use Rattle.pb_hosts.proofs.Turns.{run_once_host_yes, run_once_host_not, run_once_host_end}
use Rattle.pb_hosts.proofs.turned.run_once_host.Goals as goal

pub returns-then-is_run_once_host : goal.returns-then-is_run_once_host
returns-then-is_run_once_host c =
    c.row_at.ensures
    ∙ run_once_host_yes c.args.place c.args.rows.now c.args.batch.now c.loop-host.from c.in-Some.host.0 (run_once_host c.args.place c.args.rows.now) c.requires.insiders c.requires.outsiders c.in-Some.ensures.some (sym c.is_run_once_host.ensures ∙ c.if-is_run_once_host.true)
    c.loop-host.invariant

pub loop-host-preserved : goal.loop-host-preserved
loop-host-preserved c =
    subst (λ (n : ℕ). run_once_host c.args.place (drop n c.args.rows.now) ≡ run_once_host c.args.place c.args.rows.now) (sym c.behind-from.ensures)
    (run_once_host_not c.args.place c.args.rows.now c.args.batch.now c.loop-host.from c.in-Some.host.0 (run_once_host c.args.place c.args.rows.now) c.requires.insiders c.requires.outsiders c.in-Some.ensures.some
    (sym c.is_run_once_host.ensures ∙ c.if-is_run_once_host.false) c.loop-host.invariant)

pub returns : goal.returns
returns c =
    run_once_host_end c.args.place c.args.rows.now c.args.batch.now c.loop-host.from (run_once_host c.args.place c.args.rows.now) c.requires.insiders c.requires.outsiders c.in_default.ensures.none c.loop-host.invariant
