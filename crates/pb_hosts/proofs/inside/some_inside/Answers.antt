use Rattle.std.proofs.Common.{◌≡◌, ◌∙◌, ℕ, drop, subst, sym}
use Rattle.std.specs.List.{list_any}
use Rattle.pb_host.specs.Runs.{is_in}
use Rattle.pb_hosts.proofs.Members.{some_yes, some_not, some_end}
use Rattle.pb_hosts.proofs.inside.some_inside.Goals as goal

pub returns-then-is_in_at : goal.returns-then-is_in_at
returns-then-is_in_at c =
    some_yes c.args.rows.now c.args.batch.now c.loop-host.from c.in-Some.host.0 (list_any is_in c.args.rows.now) c.requires.insiders c.requires.outsiders c.in-Some.ensures.some
    (sym c.is_in_at.ensures ∙ c.if-is_in_at.true)
    c.loop-host.invariant

pub loop-host-preserved : goal.loop-host-preserved
loop-host-preserved c =
    subst (λ (n : ℕ). list_any is_in (drop n c.args.rows.now) ≡ list_any is_in c.args.rows.now) (sym c.behind-from.ensures)
    (some_not c.args.rows.now c.args.batch.now c.loop-host.from c.in-Some.host.0 (list_any is_in c.args.rows.now) c.requires.insiders c.requires.outsiders c.in-Some.ensures.some
    (sym c.is_in_at.ensures ∙ c.if-is_in_at.false)
    c.loop-host.invariant)

pub returns : goal.returns
returns c =
    some_end c.args.rows.now c.args.batch.now c.loop-host.from (list_any is_in c.args.rows.now) c.requires.insiders c.requires.outsiders c.in_default.ensures.none c.loop-host.invariant
