use Rattle.std.proofs.Common.{◌≡◌, ◌∙◌, ℕ, drop, ap, subst, sym}
use Rattle.pb_hosts.specs.Hosts.{least_place, lesser}
use Rattle.pb_hosts.proofs.Members.{least_step, least_end}
use Rattle.pb_hosts.proofs.inside.least_inside.Goals as goal

pub loop-host-preserved : goal.loop-host-preserved
loop-host-preserved c =
    subst (λ (n : ℕ). lesser c.lesser-least.result (least_place (drop n c.args.rows.now)) ≡ least_place c.args.rows.now) (sym c.behind-from.ensures)
    (least_step c.args.rows.now c.args.batch.now c.loop-host.from c.in-Some.host.0 c.loop-host.least c.lesser-least.result (least_place c.args.rows.now) c.requires.insiders c.requires.outsiders c.in-Some.ensures.some
    (c.lesser-least.ensures ∙ ap (lesser c.loop-host.least) c.place_at.ensures)
    c.loop-host.invariant)

pub returns : goal.returns
returns c =
    least_end c.args.rows.now c.args.batch.now c.loop-host.from c.loop-host.least (least_place c.args.rows.now) c.requires.insiders c.requires.outsiders c.in_default.ensures.none c.loop-host.invariant
