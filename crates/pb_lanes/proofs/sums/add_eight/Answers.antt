use Rattle.std.proofs.Common.{arith, ap, sym, subst, refl, ◌∙◌, ◌+◌, ◌*◌, length, w64, Fits}
use Rattle.std.specs.Simd.Lanes.{chunk, sum_l, zip2, Each2}
use Rattle.std.proofs.lemmas.Simd.{length-chunk, length-zip2, sum-zip2, adds_fit}
use Rattle.pb_lanes.proofs.Summed.{sum_of_lanes, unmapped}
use Rattle.pb_lanes.proofs.sums.add_eight.Goals as goal

pub overflow_add-result : goal.overflow_add-result
overflow_add-result c =
    let those = chunk (8 * c.args.index) 8 c.args.counts.now in
    let same = unmapped _ those (λ x. refl) in
    let total = sum_of_lanes those in
    let small = c.requires.small in
    subst (λ ys. Each2 (λ a b. Fits w64 (a + b)) c.args.sums ys) (sym same) (adds_fit w64 c.args.sums those (omega (arith, total, small)))

pub returns-clause-long : goal.returns-clause-long
returns-clause-long c =
    let those = chunk (8 * c.args.index) 8 c.args.counts.now in
    let same = unmapped _ those (λ x. refl) in
    let eight = length-chunk (8 * c.args.index) 8 c.args.counts.now c.requires.room in
    let long = c.requires.long in
    ap (λ ys. length (zip2 (λ a b. a + b) c.args.sums ys)) same ∙ length-zip2 (λ a b. a + b) c.args.sums those (omega (arith, eight, long)) ∙ long

pub returns-clause-sum : goal.returns-clause-sum
returns-clause-sum c =
    let those = chunk (8 * c.args.index) 8 c.args.counts.now in
    let same = unmapped _ those (λ x. refl) in
    let eight = length-chunk (8 * c.args.index) 8 c.args.counts.now c.requires.room in
    let long = c.requires.long in
    ap (λ ys. sum_l (zip2 (λ a b. a + b) c.args.sums ys)) same ∙ sum-zip2 c.args.sums those (omega (arith, eight, long))
    ∙ ap (λ n. sum_l c.args.sums + n) (sym (sum_of_lanes those))
