use Rattle.std.proofs.Common.{arith, ◌≡◌, ◌+◌, ◌*◌}
use Rattle.std.proofs.lemmas.List.Sums.{count_by-le-length}
use Rattle.pb_lanes.specs.Bytes.{is_byte}
use Rattle.pb_lanes.proofs.Counted.{count_from}
use Rattle.pb_lanes.proofs.bytes.count_in.Goals as goal

pub overflow_add-count : goal.overflow_add-count
overflow_add-count c =
    let more = count_from c.args.byte c.args.bytes.now (64 * c.loop-index.index) 64 in
    let inv = c.loop-index.invariant in
    let most = count_by-le-length (is_byte c.args.byte) c.args.bytes.now in
    let ones = c.hits.ensures.ones in
    record { fits = omega (arith, more, inv, most, ones, c.requires) }

pub loop-index-preserved : goal.loop-index-preserved
loop-index-preserved c =
    let more = count_from c.args.byte c.args.bytes.now (64 * c.loop-index.index) 64 in
    let inv = c.loop-index.invariant in
    let ones = c.hits.ensures.ones in
    let next : 64 * (c.loop-index.index + 1) ≡ 64 * c.loop-index.index + 64 = omega arith in
    rw next (omega (arith, more, inv, ones))
