use Rattle.std.proofs.Common.{◌∙◌, ap}
use Rattle.std.proofs.lemmas.Result.{IfOk-weaker}
use Rattle.pb_groups.specs.Keys.{has_host}
use Rattle.pb_groups.proofs.Ordered.{kept_having}
use Rattle.pb_groups.proofs.groups.Groups.with_host.Goals as goal

pub returns : goal.returns
returns c =
    rw (← c.self.view_is)
    (IfOk-weaker c.having.result _ _
    (λ v is. is ∙ ap (λ planes. has_host planes c.args.host.0 c.args.order.now) c.as_slice.ensures.value
    ∙ kept_having c.self.inside.hosts c.self.inside.own.items c.self.inside.links.items c.self.inside.depths.items c.self.inside.members.items c.args.host.0 c.args.order.now c.self.invariant) c.having.ensures)
