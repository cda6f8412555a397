use Rattle.std.proofs.Common.{◌∙◌, ap, sym}
use Rattle.std.specs.Option.{option_copied}
use Rattle.pb_host.specs.Host.{came_back}
use Rattle.pb_host.proofs.InOrder.{back_nothing, retried_nothing, no_call, back_step, retried_step}
use Rattle.pb_host.proofs.Went.{came_as}
use Rattle.pb_host.proofs.items.TaskItems.back.Goals as goal

pub returns-in_default-clause-ok : goal.returns-in_default-clause-ok
returns-in_default-clause-ok c =
    back_nothing (came_back c.args.site.now.plan.now c.args.site.now.play.now c.args.site.now.host.0 c.args.site.now.facts.now c.args.site.now.place c.args.outcome.now) c.args.self.now (sym c.next.ensures ∙ c.in_default.is)

pub returns-in_default-clause-retried : goal.returns-in_default-clause-retried
returns-in_default-clause-retried c =
    c.none_back.ensures.retried
    ∙ retried_nothing (came_back c.args.site.now.plan.now c.args.site.now.play.now c.args.site.now.host.0 c.args.site.now.facts.now c.args.site.now.place c.args.outcome.now) c.args.self.now (sym c.next.ensures ∙ c.in_default.is)

pub returns-in_default-call-clause-ok : goal.returns-in_default-call-clause-ok
returns-in_default-call-clause-ok c =
    absurd (no_call c.args.self.now c.in-Some.number (sym c.next.ensures ∙ c.in-Some.is) (sym c.call.ensures ∙ ap option_copied c.in_default-call.is))

pub returns-in_default-call-clause-retried : goal.returns-in_default-call-clause-retried
returns-in_default-call-clause-retried c =
    absurd (no_call c.args.self.now c.in-Some.number (sym c.next.ensures ∙ c.in-Some.is) (sym c.call.ensures ∙ ap option_copied c.in_default-call.is))

pub returns-clause-ok : goal.returns-clause-ok
returns-clause-ok c =
    c.take.ensures.items
    ∙ back_step (came_back c.args.site.now.plan.now c.args.site.now.play.now c.args.site.now.host.0 c.args.site.now.facts.now c.args.site.now.place c.args.outcome.now) c.args.self.now c.in-Some.number c.in-Some-call.call.now c.in_ok-back.back
    (sym c.next.ensures ∙ c.in-Some.is) (sym c.call.ensures ∙ ap option_copied c.in-Some-call.is)
    (λ item there.
    came_as c.args.site.now.plan.now c.args.site.now.play.now c.args.site.now.host.0 c.args.site.now.facts.now c.args.site.now.place c.args.outcome.now c.args.self.now c.in-Some.number item c.in-Some-call.call.now c.in_ok-judged.judged
    c.in_ok-back.back c.in_ok-judged.ensures c.in_ok-back.ensures there)

pub returns-clause-retried : goal.returns-clause-retried
returns-clause-retried c =
    c.take.ensures.retried
    ∙ retried_step (came_back c.args.site.now.plan.now c.args.site.now.play.now c.args.site.now.host.0 c.args.site.now.facts.now c.args.site.now.place c.args.outcome.now) c.args.self.now c.in-Some.number c.in-Some-call.call.now c.in_ok-back.back
    (sym c.next.ensures ∙ c.in-Some.is) (sym c.call.ensures ∙ ap option_copied c.in-Some-call.is)
    (λ item there.
    came_as c.args.site.now.plan.now c.args.site.now.play.now c.args.site.now.host.0 c.args.site.now.facts.now c.args.site.now.place c.args.outcome.now c.args.self.now c.in-Some.number item c.in-Some-call.call.now c.in_ok-judged.judged
    c.in_ok-back.back c.in_ok-judged.ensures c.in_ok-back.ensures there)
