use Rattle.std.proofs.Common.{rules, arith}
use Rattle.pb_lanes.proofs.Summed.{one_more, rest_most, most}
use Rattle.pb_lanes.proofs.sums.sum_rest.Goals as goal

pub overflow_add-sum : goal.overflow_add-sum
overflow_add-sum c =
    let inv = c.loop-at.invariant in
    let lt = c.loop-at.auto.at-end in
    let more = one_more c.args.counts.now c.loop-at.at (search rules) in
    let all = most c.args.counts.now c.type_inv.counts c.requires.few in
    let rest = rest_most c.args.counts.now c.args.from in
    let here = c.from-sum.ensures in
    record { fits = omega (arith, inv, more, all, rest, here) }
