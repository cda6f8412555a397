use Rattle.std.proofs.Common.{◌∙◌, ap, length}
use Rattle.pb_groups.specs.Keys.{keys_to}
use Rattle.pb_groups.proofs.Ordered.{kept_order, kept_rises, order_below}
use Rattle.pb_groups.proofs.groups.Groups.in_order.Goals as goal

pub returns-clause-value : goal.returns-clause-value
returns-clause-value c =
    let keys = c.in_ok-keys.ensures ∙ ap (λ d. keys_to d c.args.priorities.now (length d)) c.as_slice.ensures.value in
    kept_order c.self.inside.hosts c.self.inside.own.items c.self.inside.links.items c.self.inside.depths.items c.self.inside.members.items c.args.self.now c.args.priorities.now c.in_ok-keys.keys.keys c.in_ok-groups_of.field-0.items c.self.invariant c.self.view_is keys
    c.in_ok-groups_of.ensures.groups

pub returns-clause-rising : goal.returns-clause-rising
returns-clause-rising c =
    let keys = c.in_ok-keys.ensures ∙ ap (λ d. keys_to d c.args.priorities.now (length d)) c.as_slice.ensures.value in
    rw (← c.self.view_is)
    (kept_rises c.self.inside.hosts c.self.inside.own.items c.self.inside.links.items c.self.inside.depths.items c.self.inside.members.items c.args.priorities.now c.in_ok-keys.keys.keys c.in_ok-groups_of.field-0.items c.self.invariant keys c.in_ok-groups_of.ensures.groups c.in_ok-groups_of.ensures.rising)

pub returns-clause-below : goal.returns-clause-below
returns-clause-below c = order_below c.args.self.now c.args.priorities.now c.in_ok-groups_of.field-0.items (returns-clause-value c)
