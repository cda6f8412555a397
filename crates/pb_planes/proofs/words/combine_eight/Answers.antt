use Rattle.std.proofs.Common.{arith, rules, ◌+◌}
use Rattle.std.proofs.lemmas.Simd.{length-put_chunk, get_or-put_chunk_below, get_or-put_chunk_above}
use Rattle.pb_planes.proofs.Combined.{lanes, inside, length-lanes}
use Rattle.pb_planes.proofs.words.combine_eight.Goals as goal

pub returns-clause-long : goal.returns-clause-long
returns-clause-long c = rw (c.combine_lanes-made.ensures) (length-put_chunk c.args.at c.args.to.now (lanes c.args.how c.args.to.now c.args.from.now c.args.at))

pub returns-clause-inside : goal.returns-clause-inside
returns-clause-inside c k low high = rw (c.combine_lanes-made.ensures) (inside c.args.how c.args.to.now c.args.from.now c.args.at k (search rules) (search rules) low high)

pub returns-clause-below : goal.returns-clause-below
returns-clause-below c k low = rw (c.combine_lanes-made.ensures) (get_or-put_chunk_below c.args.at c.args.to.now (lanes c.args.how c.args.to.now c.args.from.now c.args.at) k 0 low)

pub returns-clause-above : goal.returns-clause-above
returns-clause-above c k high =
    let n = length-lanes c.args.how c.args.to.now c.args.from.now c.args.at (search rules) (search rules) in
    rw (c.combine_lanes-made.ensures) (get_or-put_chunk_above c.args.at c.args.to.now (lanes c.args.how c.args.to.now c.args.from.now c.args.at) k 0 (omega arith))
