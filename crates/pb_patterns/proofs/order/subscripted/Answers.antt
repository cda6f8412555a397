use Rattle.std.proofs.lemmas.Result.{IfOk-weaker}
use Rattle.std.specs.Prelude.{option_map}
use Rattle.pb_patterns.proofs.Orders.{subscripted_is}
use Rattle.pb_patterns.proofs.order.subscripted.Goals as goal

pub returns-clause-set : goal.returns-clause-set
returns-clause-set c =
    IfOk-weaker c.set_of_hosts.result _ _
    (λ chosen is. subscripted_is c.args.inventory.now c.args.term.now c.args.subscript c.hosts-width.result c.in_ok-set.set chosen (option_map (λ g. g.0) c.listing.result) c.in_ok-order.order.items
    c.as_slice-counted.result.now c.picked-hosts.result.now c.hosts-width.ensures.count c.in_ok-set.ensures.set c.listing.ensures c.in_ok-order.ensures c.as_slice-counted.ensures.value
    c.picked-hosts.ensures is) c.set_of_hosts.ensures.set
