use Rattle.std.proofs.Common.{◌∙◌, ap}
use Rattle.std.proofs.lemmas.Result.{IfOk-weaker}
use Rattle.pb_groups.specs.Merging.{with_host}
use Rattle.pb_groups.proofs.Ordered.{kept_exactly, rises_still}
use Rattle.pb_groups.proofs.groups.Groups.merge_order.Goals as goal

pub returns-clause-rising : goal.returns-clause-rising
returns-clause-rising c =
    IfOk-weaker c.with_host.result _ _
    (λ v is. rises_still c.args.self.now c.args.priorities.now c.args.host.0 c.in_ok-order.order.items v.items c.in_ok-order.ensures.rising
    (is ∙ ap (with_host c.args.self.now c.args.host.0) c.as_slice.ensures.value)) c.with_host.ensures

pub returns-clause-groups : goal.returns-clause-groups
returns-clause-groups c =
    IfOk-weaker c.with_host.result _ _
    (λ v is. kept_exactly c.self.inside.hosts c.self.inside.own.items c.self.inside.links.items c.self.inside.depths.items c.self.inside.members.items c.args.self.now c.args.priorities.now c.args.host.0 v.items c.self.invariant c.self.view_is
    (is ∙ ap (with_host c.args.self.now c.args.host.0) (c.as_slice.ensures.value ∙ c.in_ok-order.ensures.value))) c.with_host.ensures
