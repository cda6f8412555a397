use Rattle.std.proofs.Common.{rules, ap, arith}
use Rattle.pb_value.specs.Datum.{members_nodes, members_of}
use Rattle.pb_value.specs.StoreSize.{store_size}
use Rattle.pb_value.proofs.+val_drop.Goals as goal

pub val::Dict::drop-drop-requires : goal.val::Dict::drop-drop-requires
val::Dict::drop-drop-requires t c κs =
    let falls = store_size c.self.inside.store c.self.invariant.1 in
    let size = ap (λ ms. members_nodes (members_of ms)) c.self.view_is in
    (((omega (arith, falls, size), tt), tt), search rules)
