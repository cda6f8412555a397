use Rattle.std.proofs.Common.{rules, arith, ◌≡◌, ◌+◌, ◌*◌, ◌/◌, length}
use Rattle.pb_lanes.proofs.Summed.{eight_more, most}
use Rattle.pb_lanes.proofs.sums.sum_of.Goals as goal

pub add_eight-sums-requires-clause-small : goal.add_eight-sums-requires-clause-small
add_eight-sums-requires-clause-small c =
    let inv = c.loop-index.invariant.1 in
    let more = eight_more c.args.counts.now (8 * c.loop-index.index) in
    let all = most c.args.counts.now c.type_inv.counts c.requires in
    omega (arith, inv, more, all)

pub loop-index-preserved : goal.loop-index-preserved
loop-index-preserved c =
    let inv = c.loop-index.invariant.1 in
    let more = eight_more c.args.counts.now (8 * c.loop-index.index) in
    let added = c.add_eight-sums.ensures.sum in
    let next : 8 * (c.loop-index.index + 1) ≡ 8 * c.loop-index.index + 8 = omega arith in
    (c.add_eight-sums.ensures.long, rw next (omega (arith, inv, more, added)))

pub sum_of_eight-requires-clause-small : goal.sum_of_eight-requires-clause-small
sum_of_eight-requires-clause-small c =
    let inv = c.loop-index.invariant.1 in
    let all = most c.args.counts.now c.type_inv.counts c.requires in
    omega (arith, inv, all)

pub overflow_add-result : goal.overflow_add-result
overflow_add-result c =
    let inv = c.loop-index.invariant.1 in
    let all = most c.args.counts.now c.type_inv.counts c.requires in
    let eight = c.sum_of_eight.ensures in
    let rest = c.sum_rest.ensures in
    let at : c.loop-index.index ≡ length c.args.counts.now / 8 = search rules in
    record { fits = rw (eight, rest, ← at) (omega (arith, inv, all)) }
