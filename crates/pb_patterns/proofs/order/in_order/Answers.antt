use Rattle.std.proofs.Common.{rules, refl, ◌≡◌, None, option_map, length}
use Rattle.pb_patterns.proofs.NoList.{by_number}
use Rattle.pb_patterns.proofs.order.in_order.Goals as goal

pub returns : goal.returns
returns c = by_number c.args.inventory.now (option_map (λ g. g.0) c.args.listing) c.args.set.now c.in_ok-seen.seen c.push_rest-in-None.new.order.items c.new-order.result.items c.width.result (rw c.in-None.is refl) c.new-order.ensures.items c.in_ok-seen.ensures c.in_ok-push_rest-in-None.ensures
