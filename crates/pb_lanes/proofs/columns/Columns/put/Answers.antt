use Rattle.std.proofs.Common.{arith, ap}
use Rattle.pb_lanes.specs.ColumnsOf.{hosts_in}
use Rattle.pb_lanes.specs.declared.kind.CountKind.TheVariants.{Changed, Unreachable, Failed, Skipped, Rescued, Ignored}
use Rattle.pb_lanes.proofs.columns.Columns.put.Goals as goal

pub set_count-requires-in-Changed : goal.set_count-requires-in-Changed
set_count-requires-in-Changed c =
    let wide = c.self.invariant.each Changed in
    let seen = ap hosts_in c.self.view_is in
    omega (arith, wide, seen, c.requires)

pub set_count-requires-in-Unreachable : goal.set_count-requires-in-Unreachable
set_count-requires-in-Unreachable c =
    let wide = c.self.invariant.each Unreachable in
    let seen = ap hosts_in c.self.view_is in
    omega (arith, wide, seen, c.requires)

pub set_count-requires-in-Failed : goal.set_count-requires-in-Failed
set_count-requires-in-Failed c =
    let wide = c.self.invariant.each Failed in
    let seen = ap hosts_in c.self.view_is in
    omega (arith, wide, seen, c.requires)

pub set_count-requires-in-Skipped : goal.set_count-requires-in-Skipped
set_count-requires-in-Skipped c =
    let wide = c.self.invariant.each Skipped in
    let seen = ap hosts_in c.self.view_is in
    omega (arith, wide, seen, c.requires)

pub set_count-requires-in-Rescued : goal.set_count-requires-in-Rescued
set_count-requires-in-Rescued c =
    let wide = c.self.invariant.each Rescued in
    let seen = ap hosts_in c.self.view_is in
    omega (arith, wide, seen, c.requires)

pub set_count-requires-in-Ignored : goal.set_count-requires-in-Ignored
set_count-requires-in-Ignored c =
    let wide = c.self.invariant.each Ignored in
    let seen = ap hosts_in c.self.view_is in
    omega (arith, wide, seen, c.requires)
