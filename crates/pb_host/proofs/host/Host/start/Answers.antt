use Rattle.std.proofs.Common.{◌∙◌, ap, subst}
use Rattle.pb_facts.specs.Update.{IsBetween}
use Rattle.pb_host.specs.Back.{went_on}
use Rattle.pb_host.specs.Host.{HostOf}
use Rattle.pb_host.proofs.Begun.{begun_as}
use Rattle.pb_host.proofs.host.Host.start.Goals as goal

pub returns-in-Ok-clause-row : goal.returns-in-Ok-clause-row
returns-in-Ok-clause-row c =
    c.in-Ok.ensures.row ∙ ap (went_on c.args.inventory.now c.args.play.now) c.put_running-before.ensures.row ∙ begun_as c.args.inventory.now c.args.play.now c.args.place c.args.items c.args.self.now

pub returns-in-Ok-clause-past : goal.returns-in-Ok-clause-past
returns-in-Ok-clause-past c =
    subst (λ (row : HostOf). IsBetween c.in-Ok.ended.1 row.facts c.end_if_over.new.self.facts) c.put_running-before.ensures.row c.in-Ok.ensures.past
