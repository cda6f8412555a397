use Rattle.std.proofs.Common.{◌≡◌, subst}
use Rattle.pb_items.specs.Items.{items_of}
use Rattle.pb_task_vars.proofs.ReadHosts.{items_seeing, layers_seeing}
use Rattle.pb_task_vars.proofs.site.Site.unread_items_for.Goals as goal

pub is_read_at_start-requires : goal.is_read_at_start-requires
is_read_at_start-requires c = λ is_free.
    let site = c.args.self.now in
    layers_seeing site.plan.now site.play.now site.host.0 site.facts.now c.args.place.now _ c.of-sight.ensures (c.requires.is_free is_free)

pub returns-clause-value : goal.returns-clause-value
returns-clause-value c = subst (λ start. c.in_ok-items-2.items ≡ items_of start) c.of-sight.ensures c.in_ok-items-2.ensures.value

pub returns-clause-unread : goal.returns-clause-unread
returns-clause-unread c =
    let site = c.args.self.now in
    items_seeing site.plan.now site.play.now site.host.0 site.facts.now c.args.place.now _ c.of-sight.ensures (c.is_read_at_start.ensures c.if-is_read_at_start.false)
