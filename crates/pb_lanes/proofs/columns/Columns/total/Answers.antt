use Rattle.std.proofs.Common.{arith, ap}
use Rattle.pb_lanes.specs.ColumnsOf.{hosts_in}
use Rattle.pb_lanes.proofs.columns.Columns.total.Goals as goal

pub sum_of-requires : goal.sum_of-requires
sum_of-requires c =
    let few = c.self.invariant.few in
    let seen = ap hosts_in c.self.view_is in
    let wide = c.column.ensures.width in
    omega (arith, few, seen, wide)
