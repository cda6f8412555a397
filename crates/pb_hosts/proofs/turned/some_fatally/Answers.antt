use Rattle.std.proofs.Common.{◌≡◌, ◌∙◌, ℕ, drop, subst, sym}
use Rattle.std.specs.List.{list_any}
use Rattle.pb_hosts.specs.Turn.{has_ended_fatally}
use Rattle.pb_hosts.proofs.Turns.{fatal_yes, fatal_not, fatal_end}
use Rattle.pb_hosts.proofs.turned.some_fatally.Goals as goal

pub returns-then-is_fatally_over : goal.returns-then-is_fatally_over
returns-then-is_fatally_over c =
    fatal_yes c.args.play.now c.args.place c.args.rows.now c.args.batch.now c.loop-host.from c.in-Some.host.0 (list_any (has_ended_fatally c.args.play.now c.args.place) c.args.rows.now) c.requires.insiders c.requires.outsiders
    c.in-Some.ensures.some (sym c.is_fatally_over.ensures ∙ c.if-is_fatally_over.true) c.loop-host.invariant

pub loop-host-preserved : goal.loop-host-preserved
loop-host-preserved c =
    subst (λ (n : ℕ). list_any (has_ended_fatally c.args.play.now c.args.place) (drop n c.args.rows.now) ≡ list_any (has_ended_fatally c.args.play.now c.args.place) c.args.rows.now) (sym c.behind-from.ensures)
    (fatal_not c.args.play.now c.args.place c.args.rows.now c.args.batch.now c.loop-host.from c.in-Some.host.0 (list_any (has_ended_fatally c.args.play.now c.args.place) c.args.rows.now) c.requires.insiders c.requires.outsiders
    c.in-Some.ensures.some (sym c.is_fatally_over.ensures ∙ c.if-is_fatally_over.false) c.loop-host.invariant)

pub returns : goal.returns
returns c =
    fatal_end c.args.play.now c.args.place c.args.rows.now c.args.batch.now c.loop-host.from (list_any (has_ended_fatally c.args.play.now c.args.place) c.args.rows.now) c.requires.insiders c.requires.outsiders c.in_default.ensures.none
    c.loop-host.invariant
