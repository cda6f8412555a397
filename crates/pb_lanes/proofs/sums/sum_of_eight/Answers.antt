use Rattle.std.proofs.Common.{arith, ◌∙◌, w64}
use Rattle.std.proofs.lemmas.Simd.{fold-sum, sum_fits}
use Rattle.pb_lanes.proofs.sums.sum_of_eight.Goals as goal

pub overflow_add-result : goal.overflow_add-result
overflow_add-result c =
    let small = c.requires.small in
    sum_fits w64 0 c.args.sums (omega (arith, small))

pub returns : goal.returns
returns c = fold-sum 0 c.args.sums ∙ omega arith
