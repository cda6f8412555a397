use Rattle.std.proofs.Common.{refl}
use Rattle.pb_value.proofs.Ordered.{none_ordered}
use Rattle.pb_value.proofs.val.Dict.new.Goals as goal

pub invariant_of-result : goal.invariant_of-result
invariant_of-result c = (none_ordered c.new.result.items c.new.ensures.items, refl)
