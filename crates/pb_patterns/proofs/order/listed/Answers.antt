use Rattle.std.proofs.Common.{sym, ◌∙◌, length}
use Rattle.pb_patterns.proofs.Orders.{own_below}
use Rattle.pb_patterns.proofs.order.listed.Goals as goal

pub own_order-requires-clause-within : goal.own_order-requires-clause-within
own_order-requires-clause-within c =
    rw c.own.ensures
    (own_below c.args.inventory.now.links c.args.inventory.now.own c.args.group.0 c.members-members.result.now (length c.args.seen.now) (c.members-members.ensures.width ∙ sym c.requires.width)
    c.members-members.ensures.members)
