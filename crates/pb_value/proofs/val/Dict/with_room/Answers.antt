use Rattle.pb_value.specs.Held.{held}
use Rattle.pb_value.proofs.Ordered.{none_ordered}
use Rattle.pb_value.proofs.val.Dict.with_room.Goals as goal

pub invariant_of-result : goal.invariant_of-result
invariant_of-result c = (none_ordered (held c.in_ok-with_room.field-0) c.in_ok-with_room.ensures.none, c.in_ok-with_room.ensures.all)
